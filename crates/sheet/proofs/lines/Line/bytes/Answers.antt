-- The bytes are copied into a part as long as they are.
use mathlib.Core.Path.{refl}
use Rattle.conditions.proofs.Putting.{put-length}
use Rattle.sheet.proofs.Writing.{copied}
use Rattle.sheet.proofs.lines.Line.bytes.Goals as goal

pub returns : goal.returns
returns c =
    let put = copied c.args.self.now.end c.args.self.now.buf.now c.args.text.now c.requires c.copy_from_slice.ensures.after in
    record { put = put; lent = refl; long = put-length put }
