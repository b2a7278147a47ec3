-- "all alternatives worked out" (demand 2; paper 3.2): the assignments fall into blocks under which every touched item has one held value, and a program is run once for each block.
use Rattle.std.specs.Prelude.{◌≡◌, Bool, true, false, not, ◌&&◌, cond, List, [], Option, Some, ℕ, zero, suc, ◌^◌, ◌<◌, ℤ, get_or, replicate}
use Rattle.conditions.specs.Below.{any}
use Rattle.conditions.specs.Sets.{member}
use Rattle.conditions.specs.Conditions.{number, of_number, full, intersection}
use Rattle.polyvalues.specs.declared.polyvalue.Polyvalue.{Polyvalue}
use Rattle.polyvalues.specs.Pairs.{assignments, applying}
use Rattle.polyvalues.specs.Polyvalues.{in_use, packed, fitting}
use Rattle.polyvalues.specs.Simplify.{join, canon_over}
use Rattle.book.specs.declared.Book.{Book}
use Rattle.book.specs.declared.Step.{Step}
use Rattle.book.specs.declared.state.State.{State}
use Rattle.book.specs.declared.alternatives.Worked.{Worked}
use Rattle.book.specs.Book.{most_items, void, item_at}
use Rattle.book.specs.Programs.{run, touches}
use Rattle.book.specs.Begin.{held_at, declines_at, results, grant}
use Rattle.book.specs.States.{state_of}

-- the condition of item i's held value under the assignment a
abbrev pub condition_at : Book → ℕ → ℕ → ℕ
condition_at b a i = assignments (applying (in_use (item_at b i).held) a)

-- the assignments under which each touched item below k has the held value that it has under a
unfoldable pub block_below : ℕ → Book → List Step → ℕ → ℕ → ℕ
block_below w b xs a zero = full w
block_below w b xs a (suc k) =
    let before : ℕ = block_below w b xs a k in
    cond (touches xs k) (intersection w before (condition_at b a k)) before

-- the block of a
unfoldable pub block : ℕ → Book → List Step → ℕ → ℕ
block w b xs a = block_below w b xs a b.count

-- under an assignment of s the program declines
unfoldable pub some_declines : ℕ → Book → List Step → ℕ → Bool
some_declines w b xs s = any (2 ^ w) (λ a. member s a && declines_at b xs a)

-- under one it does not
unfoldable pub some_grants : ℕ → Book → List Step → ℕ → Bool
some_grants w b xs s = any (2 ^ w) (λ a. member s a && not (declines_at b xs a))

-- ---- as the code works them out, one block after the other

-- the state s starts each touched item below k with the held value that it has under a
abbrev pub StartsAs : Book → List Step → ℕ → ℕ → State → Type 0
StartsAs b xs a k s = (i : ℕ) → i < k → touches xs i ≡ true → state_of s i ≡ held_at b a i

-- the value v under the condition c joined into the polyvalue q of an item, if the item is touched
unfoldable pub joined_row : ℕ → Bool → ℤ → ℕ → Polyvalue → Option Polyvalue
joined_row w touched v c q = cond touched (fitting (join w v c (in_use q))) (Some q)

-- item i's row of new, after the state s under the condition c
abbrev pub row_after : ℕ → List Step → State → ℕ → List Polyvalue → ℕ → Option Polyvalue
row_after w xs s c new i = joined_row w (touches xs i) (state_of s i) c (get_or new i void)

-- now has these rows, for the items below k
abbrev pub RowsAfter : ℕ → List Step → State → ℕ → List Polyvalue → ℕ → List Polyvalue → Type 0
RowsAfter w xs s c new k now = (i : ℕ) → i < k → Some (get_or now i void) ≡ row_after w xs s c new i

-- the alternatives that t covers are worked out
pub record Covers (w : ℕ) (b : Book) (xs : List Step) (t : Worked) : Type 0 where
  pub conditions : number t.covered < 2 ^ 2 ^ w
  pub rows : (i : ℕ) → i < b.count → touches xs i ≡ true → get_or t.new i void ≡ packed (canon_over w (λ a. run xs (held_at b a) i) (number t.covered))
  pub declines : t.declines ≡ some_declines w b xs (number t.covered)
  pub grants : t.grants ≡ some_grants w b xs (number t.covered)

-- none is worked out yet
unfoldable pub nothing_worked : Worked
nothing_worked = record { declines = false; grants = false; covered = of_number 0; new = replicate most_items (packed []) }

-- what the answer says where some decline, and where some do not: "1 if no assignment declines, 0 if all do, 2 otherwise"
abbrev pub grant_of : Bool → Bool → ℕ
grant_of declines grants = cond declines (cond grants 2 0) 1

-- all are worked out
pub record WorkedOut (w : ℕ) (b : Book) (xs : List Step) (t : Worked) : Type 0 where
  pub rows : (i : ℕ) → i < b.count → touches xs i ≡ true → get_or t.new i void ≡ packed (results w b xs i)
  pub granted : grant_of t.declines t.grants ≡ grant w b xs
