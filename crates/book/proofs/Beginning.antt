-- A begun book, as the code has it.
use mathlib.Core.Path.{◌≡◌, refl, ap, ap₂, ◌∙◌}
use mathlib.Core.Bool.{Bool, cond}
use mathlib.Core.List.{List, [], ◌∷◌}
use Prim.Native.Nat.{ℕ, zero, suc, ◌+◌, ◌≤◌, ◌<◌}
use native.Mathlib.Omega.{arith}
use lib.ListN.{get_or, set}
use Rattle.conditions.specs.Sets.{member, set_of}
use Rattle.conditions.proofs.Laws.Sets.{member-set_of}
use Rattle.polyvalues.specs.declared.polyvalue.Polyvalue.{Polyvalue}
use Rattle.book.specs.declared.Book.{Book}
use Rattle.book.specs.declared.Item.{Item}
use Rattle.book.specs.declared.Record.{Record}
use Rattle.book.specs.declared.Step.{Step}
use Rattle.book.specs.declared.alternatives.Worked.{Worked}
use Rattle.book.specs.Rows.{rows_from, rows}
use Rattle.book.specs.Book.{most_districts, void, free_place, with_items}
use Rattle.book.specs.Items.{becomes}
use Rattle.book.specs.Programs.{touches}
use Rattle.book.specs.Records.{begin_record}
use Rattle.book.specs.Begin.{touches_district, begin_item, begun}
use Rattle.book.specs.Alternatives.{WorkedOut}
use Rattle.conditions.proofs.Laws.Below.{by_cases}

-- an item: the row that was worked out is its result
pub begin-row : (w : ℕ) (b : Book) (xs : List Step) (t : Worked) → WorkedOut w b xs t → (i : ℕ) → i < b.count → (x : Item) {y : Item} {touched : Bool} → touched ≡ touches xs i
    → y ≡ cond touched (becomes x x.held (get_or t.new i void)) x → y ≡ begin_item w b xs i x
unfolding begin_item
begin-row w b xs t o i h x f e =
    e ∙ by_cases (touches xs i)
    (λ q. rw (f, q) (ap (λ (p : Polyvalue). becomes x x.held p) (o.rows i h q)))
    (λ q. rw (f, q))

-- rows that change alike are the same
rows_alike : {A : Type 0} (k : ℕ) (f g : ℕ → A → A) (n : ℕ) (xs : List A) → ((d : ℕ) → d < k + n → (x : A) → f d x ≡ g d x) → rows_from k f n xs ≡ rows_from k g n xs
unfolding rows_from
rows_alike k f g zero xs e = refl
rows_alike k f g (suc n) [] e = refl
rows_alike k f g (suc n) (x ∷ xs) e = ap₂ ◌∷◌ (e k (omega arith) x) (rows_alike (suc k) f g n xs (λ d h y. e d (omega arith) y))

-- the book, from its parts: one whose items have begun, the records, and the new transaction
pub begun-is : (w : ℕ) (b : Book) (xs : List Step) {now : Book} {s : ℕ} {rs : List Record} {q : ℕ} → b.districts ≤ most_districts → now ≡ with_items b (rows (begin_item w b xs) b.count b.items)
    → s ≡ set_of most_districts (touches_district b xs) → rs ≡ rows (λ d x. cond (member s d) (begin_record (b.last.0 + 1)) x) b.districts b.records → q ≡ free_place w b
    → record { last = record { 0 = b.last.0 + 1 }; districts = now.districts; records = rs; count = now.count; items = now.items; «open» = set now.«open» q (record { number = record { 0 = b.last.0 + 1 }; touched = s; ready = 0; gave = 0; decision = 0 }) } ≡ begun w b xs
unfolding begun
begun-is w b xs {s = s} few en es er eq =
    let one : b.last.0 + 1 ≡ suc b.last.0 = omega arith in
    let alike = rows_alike 0 (λ d x. cond (member s d) (begin_record (b.last.0 + 1)) x) (λ d x. cond (touches_district b xs d) (begin_record (suc b.last.0)) x) b.districts b.records
    (λ d h x. ap₂ (λ (t : Bool) (n : ℕ). cond t (begin_record n) x) (ap (λ (u : ℕ). member u d) es ∙ member-set_of most_districts (touches_district b xs) d (omega arith)) one) in
    λ k. record { last = record { 0 = one k }; districts = (en k).districts; records = (er ∙ alike) k; count = (en k).count; items = (en k).items; «open» = set (en k).«open» (eq k) (record { number = record { 0 = one k }; touched = es k; ready = 0; gave = 0; decision = 0 }) }
