-- It stays or it is closed.
use mathlib.Core.Path.{sym, ◌∙◌}
use Rattle.book.specs.Forget.{remembered}
use Rattle.book.proofs.forget.remembered.Goals as goal

pub returns-then-is_kept : goal.returns-then-is_kept
unfolding remembered
returns-then-is_kept c b o = rw (sym (c.is_kept.ensures b o) ∙ c.if-is_kept.true)

pub returns-else-is_kept : goal.returns-else-is_kept
unfolding remembered
returns-else-is_kept c b o = rw (sym (c.is_kept.ensures b o) ∙ c.if-is_kept.false)
