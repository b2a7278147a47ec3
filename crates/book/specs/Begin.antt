-- "Begin. For each of the 64 assignments run the program on the held values chosen by it. The results are the touched items' pending polyvalues. Touched districts go to
-- computing. The answer is the number and a grant: 1 if no assignment declines, 0 if all do, 2 otherwise. A transaction that declines still begins." (document 01, Events)
use Rattle.std.specs.Prelude.{Bool, false, not, ◌&&◌, ◌||◌, cond, List, [], ◌∷◌, ℕ, suc, ◌%◌, ◌^◌, eqb, leb, ltb, ℤ, pos, negsuc, length, set}
use Rattle.conditions.specs.Below.{all, any}
use Rattle.conditions.specs.Sets.{set_of}
use Rattle.polyvalues.specs.declared.polyvalue.Pair.{Pair}
use Rattle.polyvalues.specs.Values.{in_range}
use Rattle.polyvalues.specs.Pairs.{at}
use Rattle.polyvalues.specs.Polyvalues.{most_pairs, in_use, packed}
use Rattle.polyvalues.specs.Simplify.{canon}
use Rattle.polyvalues.specs.Operations.{together}
use Rattle.book.specs.declared.Refusal.TheVariants.{NoItem, BadProgram, NotIdle, AllOpen, NumbersGiven, TooManyValues, Unsound}
use Rattle.book.specs.declared.Begun.{Begun}
use Rattle.book.specs.declared.Book.{Book}
use Rattle.book.specs.declared.Item.{Item}
use Rattle.book.specs.declared.Open.{Open}
use Rattle.book.specs.declared.Step.{Step}
use Rattle.book.specs.Answers.{Answer, accepted, first_of}
use Rattle.book.specs.Rows.{rows}
use Rattle.book.specs.Book.{most_districts, last_number, item_at, item_on, free_place}
use Rattle.book.specs.Programs.{steps, is_copy, declined, run, some_step, touches}
use Rattle.book.specs.Records.{begin_record}
use Rattle.book.specs.Items.{becomes}
use Rattle.book.specs.Forget.{forget}
use Rattle.book.specs.Transactions.{unsound}

-- ---- "3: program of 0 or over 8 steps, bytes not a multiple of 4, unknown kind, or Need, Add or Set operand outside −9,999 to 9,999"

-- how many steps a program may have
abbrev pub most_steps : ℕ
most_steps = 8

-- "0 or over 8 steps, bytes not a multiple of 4"
abbrev pub bad_length : List ℕ → Bool
bad_length bytes = not (eqb (length bytes % 4) 0) || eqb (length (steps bytes)) 0 || ltb most_steps (length (steps bytes))

-- "unknown kind, or Need, Add or Set operand outside": a Copy's operand is an item number, and so judged by 2
unfoldable pub bad_step : Step → Bool
bad_step x = not (leb 1 x.kind && leb x.kind 4) || (not (is_copy x) && not (in_range x.operand))

-- either, over all steps
unfoldable pub bad_program : List ℕ → Bool
bad_program bytes = bad_length bytes || some_step bad_step (steps bytes)

-- ---- "2: item number (also a Copy operand) not in the table"

-- a number is that of an item, of this count of items
abbrev pub in_table : ℕ → ℤ → Bool
in_table count (pos n) = ltb n count
in_table count (negsuc n) = false

-- the item of a step, or a Copy's operand, is not in the table
unfoldable pub outside : ℕ → Step → Bool
outside count x = not (ltb x.item count) || (is_copy x && not (in_table count x.operand))

-- ---- what it works out

-- "the held values chosen by" the assignment a
abbrev pub held_at : Book → ℕ → ℕ → ℤ
held_at b a i = at (in_use (item_at b i).held) a

-- item i's value after the program, under each assignment: "all alternatives worked out" (demand 2)
unfoldable pub results : ℕ → Book → List Step → ℕ → List Pair
results w b xs i = canon w (λ a. run xs (held_at b a) i)

-- the program declines under the assignment a
abbrev pub declines_at : Book → List Step → ℕ → Bool
declines_at b xs a = not (eqb (declined xs (held_at b a)) 0)

-- "1 if no assignment declines, 0 if all do, 2 otherwise"
unfoldable pub grant : ℕ → Book → List Step → ℕ
grant w b xs = cond (all (2 ^ w) (λ a. not (declines_at b xs a))) 1 (cond (all (2 ^ w) (declines_at b xs)) 0 2)

-- ---- 5, 8

-- "a touched district is not idle": a touched item is on a transaction
unfoldable pub some_busy : Book → List Step → Bool
some_busy b xs = any b.count (λ i. touches xs i && not (eqb (item_on b (item_at b i)) 0))

-- "a touched item's old and new values, over all 64 assignments, are more than 8 different ones"
unfoldable pub too_many : ℕ → Book → List Step → Bool
too_many w b xs = any b.count (λ i.
    let many : Bool = ltb most_pairs (together (in_use (item_at b i).held) (results w b xs i)) in
    touches xs i && many)

-- 15, then "Begin: 3, 2, 5, 6, 7, 8, each over all steps before the next."
unfoldable pub begin_answer : ℕ → Book → List ℕ → Answer
begin_answer w b bytes =
    first_of (
    (unsound w b, Unsound)
    ∷ (bad_program bytes, BadProgram)
    ∷ (some_step (outside b.count) (steps bytes), NoItem)
    ∷ (some_busy b (steps bytes), NotIdle)
    ∷ (not (ltb (free_place w b) w), AllOpen)
    ∷ (not (ltb b.last.0 last_number), NumbersGiven)
    ∷ (too_many w b (steps bytes), TooManyValues)
    ∷ []
    )

-- ---- accepted

-- district d has a touched item
unfoldable pub touches_district : Book → List Step → ℕ → Bool
touches_district b xs d = any b.count (λ i. touches xs i && eqb (item_at b i).district d)

-- an item, number i: "The results are the touched items' pending polyvalues."
unfoldable pub begin_item : ℕ → Book → List Step → ℕ → Item → Item
begin_item w b xs i x = let new : Item = becomes x x.held (packed (results w b xs i)) in cond (touches xs i) new x

-- "An open transaction keeps its touched districts, those that reported ready, those that gave up before ready, and its decision": that of a program of these steps, as it begins
abbrev pub new_row : Book → List Step → Open
new_row b xs = record { number = record { 0 = suc b.last.0 }; touched = set_of most_districts (touches_district b xs); ready = 0; gave = 0; decision = 0 }

-- the next number is given, its place is the lowest free one
unfoldable pub begun : ℕ → Book → List Step → Book
begun w b xs =
    let n : ℕ = suc b.last.0 in
    record {
      last = record { 0 = n };
      districts = b.districts;
      records = rows (λ d r. cond (touches_district b xs d) (begin_record n) r) b.districts b.records;
      count = b.count;
      items = rows (begin_item w b xs) b.count b.items;
      «open» = set b.«open» (free_place w b) (new_row b xs);
    }

-- what a begin that answers a returns. A refused one gives number 0 and grant 0, and the book as it came.
abbrev pub begins : ℕ → Answer → Book → List Step → Begun
begins w a b xs =
    let granted : ℕ = grant w b xs in
    let after : Book = forget w (begun w b xs) in
    record {
      answer = a;
      number = record { 0 = cond (accepted a) (suc b.last.0) 0 };
      grant = cond (accepted a) granted 0;
      book = cond (accepted a) after b;
    }

-- the call: the program's bytes
unfoldable pub begin : ℕ → Book → List ℕ → Begun
begin w b bytes = begins w (begin_answer w b bytes) b (steps bytes)
