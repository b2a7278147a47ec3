-- A reader that is handed the sheet from a place on leaves the sheet from the place behind what it read on. So the code may keep the place alone, and ask for an event by it.
use mathlib.Core.Path.{◌≡◌, refl, ap, ◌∙◌}
use mathlib.Core.Bool.{Bool, true, false, cond}
use mathlib.Core.List.{List, [], ◌∷◌, ◌++◌}
use Prim.Native.Nat.{ℕ, zero, suc, ◌+◌, ◌*◌, ◌^◌}
use lib.Dec.{leb, ltb, eqb}
use lib.ListN.{length, drop}
use lib.Seq.{drop-drop}
use Rattle.conditions.specs.declared.place.TransactionNumber.{TransactionNumber}
use Rattle.polyvalues.specs.Values.{in_range, signed}
use Rattle.book.specs.Book.{most_districts, most_items}
use Rattle.sheet.specs.declared.events.Event.{Event}
use Rattle.sheet.specs.declared.events.Event.TheVariants.{Begin, Ready, GiveUp, Complete, Abort, Hear, Show}
use Rattle.sheet.specs.Readers.{Read, wrong, right, and_then, repeat, one_more, byte, word, part, any, between}
use Rattle.sheet.specs.Events.{program, at_district, on_number, of_item, fields, event}
use Rattle.sheet.specs.Sections.{code, districts, value, item, items}
use Rattle.sheet.proofs.Laws.Open.{no_read, first_read}

-- what a reader of the sheet s leaves, where nothing is wrong
pub record LeavesRest {A : Type 0} (s : List ℕ) (r : Read A) : Type 0 where
  pub is : {x : A} {at : ℕ} {l : List ℕ} → r ≡ right x at l → l ≡ drop at s

module _ (s : List ℕ) where
  -- ---- nothing, something, one reader and then another, one of two, one again and again

  leaves_none : {A : Type 0} (place : ℕ) → LeavesRest {A = A} s (wrong place)
  leaves_none place = record { is = λ e. no_read e }

  leaves-read : {A : Type 0} (x : A) (at : ℕ) → LeavesRest s (right x at (drop at s))
  leaves-read x at = record { is = λ e. cc }

  leaves-then : {A B : Type 0} {r : Read A} (more : A → ℕ → List ℕ → Read B) → LeavesRest s r → ((x : A) (at : ℕ) → LeavesRest s (more x at (drop at s))) → LeavesRest s (and_then r more)
  leaves-then {r = r} more k m =
      record { is = λ e. let f = first_read r more e in (m f.0 f.1).is (rw (k.is f.3) at f.4) }

  leaves_either : {A : Type 0} (b : Bool) {q r : Read A} → LeavesRest s q → LeavesRest s r → LeavesRest s (cond b q r)
  leaves_either true k m = k
  leaves_either false k m = m

  leaves-repeat : {A : Type 0} (reader : A → ℕ → List ℕ → Read A) → ((x : A) (at : ℕ) → LeavesRest s (reader x at (drop at s))) → (n : ℕ) (x : A) (at : ℕ)
      → LeavesRest s (repeat n reader x at (drop at s))
  unfolding repeat
  leaves-repeat reader k zero x at = leaves-read x at
  leaves-repeat reader k (suc n) x at = leaves-then _ (k x at) (leaves-repeat reader k n)

  -- ---- bytes

  leaves-byte : (test : ℕ → Bool) (at : ℕ) → LeavesRest s (byte test at (drop at s))
  unfolding byte
  leaves-byte test at = go (drop at s) refl
    where
      go : (l : List ℕ) → l ≡ drop at s → LeavesRest s (byte test at l)
      go [] e = leaves_none at
      go (b ∷ l) e = let k : l ≡ drop (at + 1) s = ap (drop 1) e ∙ drop-drop 1 at s in rw k (leaves_either (test b) (leaves-read b (at + 1)) (leaves_none at))

  pub leaves_word : (test : ℕ → Bool) (at : ℕ) → LeavesRest s (word test at (drop at s))
  unfolding word
  leaves_word test at = go (drop at s) refl
    where
      go : (l : List ℕ) → l ≡ drop at s → LeavesRest s (word test at l)
      go [] e = leaves_none at
      go (high ∷ []) e = leaves_none (at + 1)
      go (high ∷ low ∷ l) e =
          let k : l ≡ drop (at + 2) s = ap (drop 2) e ∙ drop-drop 2 at s in
          let n : ℕ = high * 2 ^ 8 + low in
          rw k (leaves_either (test n) (leaves-read n (at + 2)) (leaves_none at))

  leaves-part : (n at : ℕ) → LeavesRest s (part n at (drop at s))
  unfolding part
  leaves-part n at = rw (drop-drop n at s) (leaves_either (leb n (length (drop at s))) (leaves-read _ (at + n)) (leaves_none _))

  -- ---- events

  leaves-program : (at : ℕ) → LeavesRest s (program at (drop at s))
  unfolding program
  leaves-program at = leaves-then _ (leaves-byte any at) (λ n from. leaves-then _ (leaves-part (4 * n) from) (λ steps to. leaves-read (Begin from to) to))

  leaves-district : (make : TransactionNumber → ℕ → Event) (at : ℕ) → LeavesRest s (at_district make at (drop at s))
  unfolding at_district
  leaves-district make at = leaves-then _ (leaves_word any at) (λ n at. leaves-then _ (leaves-byte any at) (λ d at. leaves-read (make (record { 0 = n }) d) at))

  leaves-number : (make : TransactionNumber → Event) (at : ℕ) → LeavesRest s (on_number make at (drop at s))
  unfolding on_number
  leaves-number make at = leaves-then _ (leaves_word any at) (λ n at. leaves-read (make (record { 0 = n })) at)

  leaves-item-shown : (at : ℕ) → LeavesRest s (of_item at (drop at s))
  unfolding of_item
  leaves-item-shown at = leaves-then _ (leaves-byte any at) (λ i at. leaves-read (Show i) at)

  leaves-fields : (kind at : ℕ) → LeavesRest s (fields kind at (drop at s))
  unfolding fields
  leaves-fields kind at =
      leaves_either (eqb kind 1) (leaves-program at)
      (leaves_either (eqb kind 2) (leaves-district Ready at)
      (leaves_either (eqb kind 3) (leaves-district GiveUp at)
      (leaves_either (eqb kind 4) (leaves-number Complete at)
      (leaves_either (eqb kind 5) (leaves-number Abort at)
      (leaves_either (eqb kind 7) (leaves-item-shown at) (leaves-district Hear at))))))

  pub leaves-event : (at : ℕ) → LeavesRest s (event at (drop at s))
  unfolding event
  leaves-event at = leaves-then _ (leaves-byte (between 1 7) at) leaves-fields

  -- ---- the sections before the events

  pub leaves-districts : (at : ℕ) → LeavesRest s (districts at (drop at s))
  unfolding districts code
  leaves-districts at =
      leaves-then _ (leaves-byte (between 1 most_districts) at) (λ n at.
      leaves-then _ (leaves-repeat code (λ last at. leaves-byte (λ c. ltb last c) at) n 0 at) (λ last at. leaves-read n at))

  leaves-value : (at : ℕ) → LeavesRest s (value at (drop at s))
  unfolding value
  leaves-value at = leaves-then _ (leaves_word (λ n. in_range (signed n)) at) (λ n at. leaves-read (signed n) at)

  leaves-item : (count at : ℕ) → LeavesRest s (item count at (drop at s))
  unfolding item
  leaves-item count at = leaves-then _ (leaves-byte (λ d. ltb d count) at) (λ d at. leaves-then _ (leaves-value at) (λ v at. leaves-read (record { district = d; value = v }) at))

  pub leaves-items : (count at : ℕ) → LeavesRest s (items count at (drop at s))
  unfolding items one_more
  leaves-items count at = leaves-then _ (leaves-byte (between 1 most_items) at) (λ n at. leaves-repeat (one_more (item count)) (λ xs at. leaves-then _ (leaves-item count at) (λ x at. leaves-read (xs ++ (x ∷ [])) at)) n [] at)
