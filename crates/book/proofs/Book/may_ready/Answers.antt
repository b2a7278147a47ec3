use Rattle.book.specs.Book.{record_at}
use Rattle.book.specs.Records.{computing_on}
use Rattle.book.specs.Ready.{ready_answer}
use Rattle.book.proofs.Book.may_ready.Goals as goal

pub returns : goal.returns
unfolding ready_answer
returns c = c.site_where.ensures (computing_on c.args.n.0 (record_at c.args.self.now c.args.d)) (λ r p. p.2)
