-- The tests of abort first.
use mathlib.Core.Path.{◌≡◌, sym, ap, ◌∙◌}
use mathlib.Core.List.{[], ◌∷◌, ◌++◌}
use Prim.Native.Nat.{ℕ}
use native.Mathlib.Omega.{arith}
use Rattle.std.proofs.Common.{rules}
use Rattle.std.specs.Prelude.{Err}
use Rattle.conditions.specs.Places.{places}
use Rattle.book.specs.declared.Refusal.TheVariants.{AlreadyDecided, NotReady}
use Rattle.book.specs.Book.{place_of, open_at, open_of}
use Rattle.book.specs.Forget.{decided}
use Rattle.book.specs.Decide.{some_not_ready, complete_answer, abort_answer}
use Rattle.book.specs.Judged.{open_tests}
use Rattle.book.proofs.Laws.Answers.{and-accepted}
use Rattle.book.proofs.Laws.Sound.{test-sound}
use Rattle.book.proofs.Judging.{refused-before, refused-last, accepted-last, sound_and_open}
use Rattle.book.proofs.Book.may_complete.Goals as goal

pub returns-in_err-q : goal.returns-in_err-q
unfolding complete_answer abort_answer
returns-in_err-q c =
    let b = c.args.self.now in
    let n = c.args.n.0 in
    let same : c.from_residual.result ≡ Err c.in_err-q.field-0.0 = search rules in
    same ∙ refused-before (open_tests places b n ++ (decided (open_of places b n), AlreadyDecided) ∷ []) (some_not_ready b (open_of places b n)) NotReady (place_of places b n) (place_of places b n) c.in_err-q.ensures

pub bounds-self-q : goal.bounds-self-q
unfolding abort_answer
bounds-self-q c =
    let b = c.args.self.now in
    let judged = and-accepted (abort_answer places b c.args.n.0) c.in_ok-q.ensures in
    rw judged.1 (sound_and_open places b c.args.n.0 _ judged.0).1

pub offset_bounds-self-q : goal.offset_bounds-self-q
unfolding abort_answer
offset_bounds-self-q c =
    let b = c.args.self.now in
    let judged = and-accepted (abort_answer places b c.args.n.0) c.in_ok-q.ensures in
    record { fits = omega (arith, judged.1, (sound_and_open places b c.args.n.0 _ judged.0).1) }

pub some_awaited-requires : goal.some_awaited-requires
unfolding abort_answer
some_awaited-requires c =
    let b = c.args.self.now in
    let judged = and-accepted (abort_answer places b c.args.n.0) c.in_ok-q.ensures in
    (test-sound places b (sound_and_open places b c.args.n.0 _ judged.0).0).few_districts

pub returns-then-some_awaited : goal.returns-then-some_awaited
unfolding complete_answer abort_answer some_not_ready
returns-then-some_awaited c =
    let b = c.args.self.now in
    let n = c.args.n.0 in
    let judged = and-accepted (abort_answer places b n) c.in_ok-q.ensures in
    refused-last (open_tests places b n ++ (decided (open_of places b n), AlreadyDecided) ∷ []) (some_not_ready b (open_of places b n)) NotReady (place_of places b n) (place_of places b n) c.in_ok-q.ensures
    (ap (λ (q : ℕ). some_not_ready b (open_at b q)) (sym judged.1) ∙ sym c.some_awaited.ensures ∙ c.if-some_awaited.true)

pub returns : goal.returns
unfolding complete_answer abort_answer some_not_ready
returns c =
    let b = c.args.self.now in
    let n = c.args.n.0 in
    let judged = and-accepted (abort_answer places b n) c.in_ok-q.ensures in
    accepted-last (open_tests places b n ++ (decided (open_of places b n), AlreadyDecided) ∷ []) (some_not_ready b (open_of places b n)) NotReady (place_of places b n) (place_of places b n) c.in_ok-q.ensures
    (ap (λ (q : ℕ). some_not_ready b (open_at b q)) (sym judged.1) ∙ sym c.some_awaited.ensures ∙ c.if-some_awaited.false) judged.1
