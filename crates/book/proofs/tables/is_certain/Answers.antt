use mathlib.Core.Path.{sym, ◌∙◌}
use Rattle.book.proofs.Depended.{always-free}
use Rattle.book.proofs.tables.is_certain.Goals as goal

pub returns-then-p-eq1 : goal.returns-then-p-eq1
returns-then-p-eq1 c e = always-free c.args.p c.if-p-eq1.true (sym c.same.ensures ∙ e)
