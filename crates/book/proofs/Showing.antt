-- Show: the numbers of the transactions at the places, and what each answer says of the buffer.
use mathlib.Core.Path.{◌≡◌, ap, ◌∙◌, fun_ext}
use mathlib.Core.Bool.{true, false}
use mathlib.Core.List.{List, map}
use Prim.Native.Nat.{ℕ, ◌+◌, ◌≤◌, ◌<◌}
use native.Mathlib.Omega.{arith}
use lib.ListN.{length, get_or-map}
use borrow.Author.Tests.{lt-ltb, le-ltb}
use Rattle.conditions.specs.declared.place.TransactionNumber.{TransactionNumber}
use Rattle.conditions.specs.Places.{places as width}
use Rattle.conditions.specs.Text.{number_at}
use Rattle.std.specs.Result.{result_or}
use Rattle.conditions.specs.declared.text.NoRoom.{NoRoom}
use Rattle.conditions.specs.Written.{room, answer, written}
use Rattle.conditions.proofs.Laws.Below.{by_cases}
use Rattle.polyvalues.specs.declared.polyvalue.Polyvalue.{Polyvalue}
use Rattle.polyvalues.specs.Text.{line_text}
use Rattle.polyvalues.specs.Polyvalues.{in_use}
use Rattle.std.specs.Prelude.{Result, Ok, Err}
use Rattle.book.specs.declared.Refusal.{Refusal}
use Rattle.book.specs.declared.Refusal.TheVariants.{NoItem, Unsound, ShortBuffer}
use Rattle.book.specs.declared.Book.{Book}
use Rattle.book.specs.declared.Open.{Open}
use Rattle.book.specs.Answers.{first_of}
use Rattle.book.specs.Book.{no_open}
use Rattle.book.specs.SoundTest.{sound}
use Rattle.book.specs.Show.{tag_number, line_of, held_line, line_shown, show_answer, shown, show}

-- ---- the line

pub line-is : (p : Polyvalue) (places : List Open) {numbers : List TransactionNumber} → numbers ≡ map (λ o. o.number) places
    → line_text width (number_at numbers) (in_use p) ≡ line_of width p places
line-is p places e =
    let tags : number_at (map (λ (o : Open). o.number) places) ≡ tag_number places =
    fun_ext (λ q. ap (λ (n : TransactionNumber). n.0) (get_or-map (λ (o : Open). o.number) places q no_open)) in
    ap (λ (n : ℕ → ℕ). line_text width n (in_use p)) (ap number_at e ∙ tags)

-- it was written, or there was too little room
pub was-written : (l t : List ℕ) {r : Result ℕ NoRoom} → r ≡ answer l 0 t → result_or r (Err ShortBuffer) ≡ line_shown l t
unfolding answer
was-written l t e =
    let plain : 0 + length t ≡ length t = omega arith in
    ap (λ (r : Result ℕ NoRoom). result_or r (Err ShortBuffer)) e ∙ by_cases (room l 0 t) (λ k. rw k (ap Ok plain)) (λ k. rw k)

-- ---- the answers

module _ (b : Book) (i : ℕ) (l : List ℕ) where
  pub unsound-shown : sound width b ≡ false → (Err Unsound ≡ show width b i l) × (l ≡ shown width b i l)
  unfolding show show_answer shown first_of
  unsound-shown s = (rw s, rw s)

  module _ (s : sound width b ≡ true) where
    pub none-shown : b.count ≤ i → (Err NoItem ≡ show width b i l) × (l ≡ shown width b i l)
    unfolding show show_answer shown first_of
    none-shown h = let past = le-ltb i b.count h in (rw (s, past), rw (s, past))

    pub item-shown : {r : Result ℕ Refusal} {m : List ℕ} → i < b.count → r ≡ line_shown l (held_line width b i) → m ≡ written l 0 (held_line width b i)
        → (r ≡ show width b i l) × (m ≡ shown width b i l)
    unfolding show show_answer shown first_of written
    item-shown h e f =
        let there = lt-ltb i b.count h in
        by_cases (room l 0 (held_line width b i))
        (λ k. (rw (s, there, k) (rw k at e), rw (s, there, k) (rw k at f)))
        (λ k. (rw (s, there, k) (rw k at e), rw (s, there, k) (rw k at f)))
