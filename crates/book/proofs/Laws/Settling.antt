-- What becomes of one item: where it is dropped, split, installed or reduced it stays sound, keeps its lengths, and depends on no other places.
use mathlib.Core.Path.{◌≡◌, refl, sym, ◌∙◌, ap, ap₂}
use mathlib.Core.Bool.{Bool, true, false, ◌&&◌, ◌||◌, true≢false}
use Prim.Native.Nat.{ℕ, ◌<◌}
use native.Mathlib.Omega.{arith}
use borrow.Author.Tests.{eqb-true, eq-eqb, ne_eqb}
use Rattle.conditions.proofs.Laws.Below.{or_left, or_right, by_cases}
use Rattle.polyvalues.specs.Pairs.{depends}
use Rattle.polyvalues.specs.Polyvalues.{in_use, WellFormed, sound as sound_polyvalue}
use Rattle.polyvalues.specs.Operations.{reduce, select}
use Rattle.polyvalues.proofs.Laws.WellFormed.{reduce-well_formed, select-well_formed}
use Rattle.polyvalues.proofs.Laws.Operations.{reduce-depends-not, select-depends-not}
use Rattle.polyvalues.proofs.Laws.Paired.{packed-rows}
use Rattle.polyvalues.proofs.Laws.Packed.{in_use-packed, packed-sound, sound-well_formed}
use Rattle.book.specs.declared.Record.{Record}
use Rattle.book.specs.declared.Item.{Item}
use Rattle.book.specs.declared.Book.{Book}
use Rattle.book.specs.Book.{record_at, record_on, item_on, place_of, item_depends}
use Rattle.book.specs.Records.{busy_on}
use Rattle.book.specs.Items.{there, concerned, install, drop, split, reduce_item}
use Rattle.book.proofs.Laws.Room.{together-swap, together-self, together-reduce}
use Rattle.book.specs.Shaped.{ShapedItem}
use Rattle.book.specs.Sound.{Sound}
use Rattle.book.proofs.Laws.Sound.{place-named}
use Rattle.book.proofs.Laws.But.{ItemRow, on-busy, busy-on, busy-is, is-busy}

-- ---- what depends

pub neither-depends : (w : ℕ) (x : Item) (q : ℕ) → item_depends w x q ≡ false → (depends w (in_use x.held) q ≡ false) × (depends w (in_use x.pending) q ≡ false)
unfolding item_depends
neither-depends w x q e = (or_left (depends w (in_use x.held) q) _ e, or_right (depends w (in_use x.held) q) _ e)

pub depends-neither : (w : ℕ) (x : Item) (q : ℕ) → depends w (in_use x.held) q ≡ false → depends w (in_use x.pending) q ≡ false → item_depends w x q ≡ false
unfolding item_depends
depends-neither w x q e f = ap₂ ◌||◌ e f

-- ---- an item of an idle district

pub idle-row : (w districts n q : ℕ) (x : Item) → x.district < districts → sound_polyvalue w x.held ≡ true → x.pending ≡ x.held → n ≡ 0 → ItemRow w districts n q x
idle-row w districts n q x h e same none = record {
  belongs = h;
  held = e;
  pending = ap (sound_polyvalue w) same ∙ e;
  idle_same = λ k. same;
  own_free = λ k. absurd (omega arith);
  few_together = rw same (together-self w (in_use x.held) (sound-well_formed w x.held e));
}

-- ---- one sound item

module _ (w districts n q : ℕ) (x : Item) (f : ItemRow w districts n q x) where
  held-formed : WellFormed w (in_use x.held)
  held-formed = sound-well_formed w x.held f.held

  pending-formed : WellFormed w (in_use x.pending)
  pending-formed = sound-well_formed w x.pending f.pending

  split-formed : (p : ℕ) → WellFormed w (select w p (in_use x.pending) (in_use x.held))
  split-formed p =
      select-well_formed w p (in_use x.pending) (in_use x.held) pending-formed held-formed
      (together-swap (in_use x.held) (in_use x.pending) f.few_together)

  -- the split is a polyvalue
  pub split-sound : (p : ℕ) → sound_polyvalue w (split w p x).held ≡ true
  unfolding split
  split-sound p = packed-sound w (select w p (in_use x.pending) (in_use x.held)) (split-formed p)

  pub split-shaped : (p : ℕ) → ShapedItem (split w p x)
  unfolding split
  split-shaped p = let e = packed-rows (select w p (in_use x.pending) (in_use x.held)) (split-formed p).few in record { held = e; pending = e }

  pub split-free : (p j : ℕ) → (p ≡ j → ⊥) → item_depends w x j ≡ false → item_depends w (split w p x) j ≡ false
  unfolding split
  split-free p j apart e =
      let both = neither-depends w x j e in
      let free : depends w (in_use (split w p x).held) j ≡ false = rw (in_use-packed (select w p (in_use x.pending) (in_use x.held)))
      (select-depends-not w p (in_use x.pending) (in_use x.held) pending-formed.complete held-formed.complete j apart both.1 both.0) in
      depends-neither w (split w p x) j free free

  reduce-held-sound : (p : ℕ) (o : Bool) → sound_polyvalue w (reduce_item w p o x).held ≡ true
  unfolding reduce_item
  reduce-held-sound p o = packed-sound w (reduce w p o (in_use x.held)) (reduce-well_formed w p o (in_use x.held) held-formed)

  reduce-pending-sound : (p : ℕ) (o : Bool) → sound_polyvalue w (reduce_item w p o x).pending ≡ true
  unfolding reduce_item
  reduce-pending-sound p o = packed-sound w (reduce w p o (in_use x.pending)) (reduce-well_formed w p o (in_use x.pending) pending-formed)

  pub reduce-shaped : (p : ℕ) (o : Bool) → ShapedItem (reduce_item w p o x)
  unfolding reduce_item
  reduce-shaped p o = record {
    held = packed-rows (reduce w p o (in_use x.held)) (reduce-well_formed w p o (in_use x.held) held-formed).few;
    pending = packed-rows (reduce w p o (in_use x.pending)) (reduce-well_formed w p o (in_use x.pending) pending-formed).few;
  }

  pub reduce-free-of : (p j : ℕ) (o : Bool) → item_depends w x j ≡ false → item_depends w (reduce_item w p o x) j ≡ false
  unfolding reduce_item
  reduce-free-of p j o e =
      let both = neither-depends w x j e in
      depends-neither w (reduce_item w p o x) j
      (rw (in_use-packed (reduce w p o (in_use x.held))) (reduce-depends-not w p o (in_use x.held) j both.0))
      (rw (in_use-packed (reduce w p o (in_use x.pending))) (reduce-depends-not w p o (in_use x.pending) j both.1))

  -- an item that is reduced while it stays on its transaction, or on none
  pub reduce-row : (p : ℕ) (o : Bool) → ItemRow w districts n q (reduce_item w p o x)
  unfolding reduce_item
  reduce-row p o = record {
    belongs = f.belongs;
    held = reduce-held-sound p o;
    pending = reduce-pending-sound p o;
    idle_same = λ k. rw (f.idle_same k);
    own_free = λ k. reduce-free-of p q o (f.own_free k);
    few_together = rw (in_use-packed (reduce w p o (in_use x.held)), in_use-packed (reduce w p o (in_use x.pending)))
        (omega (arith, f.few_together, together-reduce w p o (in_use x.held) (in_use x.pending)));
  }

  -- an item that is dropped, or installed
  pub drop-row : ItemRow w districts 0 q (drop x)
  drop-row = idle-row w districts 0 q (drop x) f.belongs f.held refl refl

  pub install-row : ItemRow w districts 0 q (install x)
  install-row = idle-row w districts 0 q (install x) f.belongs f.pending refl refl

-- ---- who is on a transaction

-- the items of a district are on the transaction that the district is busy on
pub concerned-busy : (w : ℕ) (b : Book) → Sound w b → (n d : ℕ) → place_of w b n < w → d < b.districts → (x : Item) → concerned b n d x ≡ (there d x && busy_on n (record_at b d))
unfolding concerned item_on
concerned-busy w b s n d p l x =
    let r : Record = record_at b d in
    by_cases (there d x)
    (λ k. by_cases (busy_on n r)
    (λ z. rw (k, eqb-true x.district d k, z, busy-on r (busy-is n r z).0) (eq-eqb r.transaction.0 n (busy-is n r z).1))
    (λ z. rw (k, eqb-true x.district d k, z) (ne_eqb (record_on r) n (λ e.
    let busy = on-busy r (omega (arith, (place-named w b n p).1)) in
    true≢false (sym (is-busy n r (s.phases d l) busy.0 (sym busy.1 ∙ e)) ∙ z)))))
    (λ k. rw k)
