-- There is room for both.
use mathlib.Core.Path.{◌≡◌, ap, ◌∙◌}
use native.Mathlib.Omega.{arith}
use Rattle.std.specs.Prelude.{Ok}
use Rattle.conditions.specs.Places.{places}
use Rattle.polyvalues.specs.declared.polyvalue.Polyvalue.{Polyvalue}
use Rattle.polyvalues.specs.Polyvalues.{in_use, packed}
use Rattle.polyvalues.specs.Operations.{select}
use Rattle.polyvalues.proofs.Laws.Room.{select-count}
use Rattle.polyvalues.proofs.Inserting.{fitted-yes}
use Rattle.book.specs.Items.{becomes, split}
use Rattle.book.proofs.items.split.Goals as goal

-- what there is room for
both : (c : goal.After-select) → c.select.result ≡ Ok (packed (select places c.args.q.0 (in_use c.args.x.pending) (in_use c.args.x.held)))
both c =
    let x = c.args.x in
    let few = select-count places c.args.q.0 (in_use x.pending) (in_use x.held) in
    c.select.ensures ∙ fitted-yes x.held (select places c.args.q.0 (in_use x.pending) (in_use x.held)) (omega (arith, few, c.requires))

pub unwrap-both-requires : goal.unwrap-both-requires
unwrap-both-requires c = rw (both c)

pub returns : goal.returns
unfolding split
returns c =
    let is = both c.before in
    ap (λ (p : Polyvalue). becomes c.args.x p p) (cc (c.unwrap-both.ensures))
