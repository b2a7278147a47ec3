use Rattle.book.specs.Book.{record_at}
use Rattle.book.specs.Records.{busy_on}
use Rattle.book.specs.GiveUp.{give_up_answer}
use Rattle.book.proofs.Book.may_give_up.Goals as goal

pub returns : goal.returns
unfolding give_up_answer
returns c = c.site_where.ensures (busy_on c.args.n.0 (record_at c.args.self.now c.args.d)) (λ r p. p.2)
