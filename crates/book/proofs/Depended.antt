-- The set of the places that items depend on, as the code gathers it.
use mathlib.Core.Path.{◌≡◌, refl, sym, ap, ap₂, ◌∙◌}
use mathlib.Core.Bool.{Bool, true, false, ◌||◌}
use mathlib.Core.List.{List, [], ◌∷◌}
use Prim.Native.Nat.{ℕ, ◌+◌, ◌≤◌, ◌<◌}
use native.Mathlib.Decide.{dec_lt}
use native.Mathlib.Omega.{arith}
use lib.Bits.{bit_or, or_lt}
use lib.Dec.{eqb}
use lib.IntN.{ℤ}
use lib.ListN.{get_or, take}
use lib.Pow.{pow_pos}
use borrow.Author.Tests.{eqb-true}
use Rattle.conditions.specs.Places.{places}
use Rattle.conditions.specs.declared.condition.Condition.{Condition}
use Rattle.conditions.specs.Conditions.{number, of_number, always, full}
use Rattle.conditions.specs.Sets.{member, set_of}
use Rattle.conditions.proofs.Laws.Sets.{member-past, member-none, member-or, set_of-lt, member-set_of, is-set_of}
use Rattle.conditions.proofs.Laws.Conditions.{always-full, depends-past}
use Rattle.polyvalues.specs.declared.polyvalue.Pair.{Pair}
use Rattle.polyvalues.specs.declared.polyvalue.Polyvalue.{Polyvalue}
use Rattle.polyvalues.specs.Pairs.{assignments, depends, certain}
use Rattle.polyvalues.specs.Polyvalues.{paired, in_use}
use Rattle.polyvalues.proofs.Laws.Depends.{certain-free}
use Rattle.book.specs.declared.Book.{Book}
use Rattle.book.specs.declared.Item.{Item}
use Rattle.book.specs.Book.{item_at, item_depends, some_depends}
use Rattle.book.proofs.Loops.{Gathered, gathered-more}

-- ---- what depends on no place

pub always-free : (p : Polyvalue) → p.count ≡ 1 → eqb (number (get_or p.conditions 0 (of_number 0))) (number always) ≡ true → (q : ℕ) → depends places (in_use p) q ≡ false
unfolding in_use depends certain
always-free p one e q = rw one (go p.values p.conditions e)
  where
    go : (vs : List ℤ) (cs : List Condition) → eqb (number (get_or cs 0 (of_number 0))) (number always) ≡ true → depends places (take 1 (paired vs cs)) q ≡ false
    go [] cs e = refl
    go (v ∷ vs) [] e = refl
    go (v ∷ vs) (c ∷ cs) e = let same : number c ≡ full places = eqb-true (number c) (number always) e ∙ always-full in rw same (certain-free places v q)

pub none-in-set : (k : ℕ) (f : ℕ → Bool) → ((q : ℕ) → f q ≡ false) → 0 ≡ set_of k f
none-in-set k f e = is-set_of k 0 f (pow_pos k) (λ n h. member-none n ∙ sym (e n))

-- ---- the places of an item: those of held and those of pending

pub either-set : (w : ℕ) (x : Item) {s t : ℕ} → s ≡ set_of w (depends w (in_use x.held)) → t ≡ set_of w (depends w (in_use x.pending)) → bit_or s t ≡ set_of w (item_depends w x)
unfolding item_depends
either-set w x e f =
    rw (e, f)
    (is-set_of w (bit_or (set_of w (depends w (in_use x.held))) (set_of w (depends w (in_use x.pending)))) (item_depends w x)
    (or_lt w _ _ (set_of-lt w (depends w (in_use x.held))) (set_of-lt w (depends w (in_use x.pending))))
    (λ q h. member-or _ _ q ∙ ap₂ ◌||◌ (member-set_of w (depends w (in_use x.held)) q h) (member-set_of w (depends w (in_use x.pending)) q h)))

pairs-past : (w : ℕ) (ps : List Pair) (q : ℕ) → w ≤ q → depends w ps q ≡ false
unfolding depends
pairs-past w [] q l = refl
pairs-past w (p ∷ ps) q l = rw (depends-past w (assignments p) q l, pairs-past w ps q l)

-- a place is in the set where the item depends on it, also one past the last, on which nothing depends
pub set-member : (w : ℕ) (x : Item) (q : ℕ) {s : ℕ} → s ≡ set_of w (item_depends w x) → member s q ≡ item_depends w x q
unfolding item_depends
set-member w x q e = ap (λ (n : ℕ). member n q) e ∙ pick (dec_lt q w)
  where
    pick : Dec (q < w) → member (set_of w (item_depends w x)) q ≡ item_depends w x q
    pick (yes h) = member-set_of w (item_depends w x) q h
    pick (no h) =
        let past : w ≤ q = omega arith in
        member-past w (set_of w (item_depends w x)) q (set_of-lt w (item_depends w x)) past
        ∙ sym (ap₂ ◌||◌ (pairs-past w (in_use x.held) q past) (pairs-past w (in_use x.pending) q past))

-- ---- item after item

-- s has the places that an item before i depends on
abbrev pub DependedBy : ℕ → Book → ℕ → ℕ → Type 0
DependedBy w b = Gathered w (λ j. item_depends w (item_at b j))

pub depended-more : (w : ℕ) (b : Book) (i s : ℕ) {t : ℕ} → DependedBy w b i s → t ≡ set_of w (item_depends w (item_at b i)) → DependedBy w b (i + 1) (bit_or s t)
depended-more w b i s {t} e f = gathered-more w _ i s (bit_or s t) e (λ q h. member-or s t q ∙ ap (λ (m : Bool). member s q || m) (set-member w (item_at b i) q f))

pub all-depended : (w : ℕ) (b : Book) (s : ℕ) {i : ℕ} → i ≡ b.count → DependedBy w b i s → (q : ℕ) → q < w → member s q ≡ some_depends w b q
unfolding some_depends
all-depended w b s last e = rw last at e
