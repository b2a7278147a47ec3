-- Openings have all their rows.
use borrow.Author.Rules.{rules}
use Rattle.book.specs.Book.{most_items}
use Rattle.book.specs.Openings.{openings_of}
use Rattle.book.proofs.Lists.{taken}
use Rattle.book.proofs.maker.Openings.items.Goals as goal

pub returns : goal.returns
unfolding openings_of
returns c = rw c.min.ensures (taken c.args.self.now.count most_items c.args.self.now.items (search rules))
