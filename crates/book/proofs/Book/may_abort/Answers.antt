-- The transaction first.
use mathlib.Core.Path.{◌≡◌, sym, ap, ◌∙◌}
use mathlib.Core.List.{[]}
use Prim.Native.Nat.{ℕ}
use native.Mathlib.Omega.{arith}
use Rattle.std.proofs.Common.{rules}
use Rattle.std.specs.Prelude.{Err}
use Rattle.conditions.specs.Places.{places}
use Rattle.book.specs.declared.Refusal.TheVariants.{AlreadyDecided}
use Rattle.book.specs.Answers.{first_of}
use Rattle.book.specs.Book.{place_of, open_at, open_of}
use Rattle.book.specs.Forget.{decided}
use Rattle.book.specs.Decide.{abort_answer}
use Rattle.book.specs.Judged.{open_tests}
use Rattle.book.proofs.Laws.Answers.{and-accepted}
use Rattle.book.proofs.Judging.{refused-before, refused-last, accepted-last, sound_and_open}
use Rattle.book.proofs.Book.may_abort.Goals as goal

pub returns-in_err-q : goal.returns-in_err-q
unfolding abort_answer
returns-in_err-q c =
    let b = c.args.self.now in
    let n = c.args.n.0 in
    let same : c.from_residual.result ≡ Err c.in_err-q.field-0.0 = search rules in
    same ∙ refused-before (open_tests places b n) (decided (open_of places b n)) AlreadyDecided (place_of places b n) (place_of places b n) c.in_err-q.ensures

pub bounds-self-q : goal.bounds-self-q
bounds-self-q c =
    let b = c.args.self.now in
    let judged = and-accepted (first_of (open_tests places b c.args.n.0)) c.in_ok-q.ensures in
    rw judged.1 (sound_and_open places b c.args.n.0 [] judged.0).1

pub offset_bounds-self-q : goal.offset_bounds-self-q
offset_bounds-self-q c =
    let b = c.args.self.now in
    let judged = and-accepted (first_of (open_tests places b c.args.n.0)) c.in_ok-q.ensures in
    record { fits = omega (arith, judged.1, (sound_and_open places b c.args.n.0 [] judged.0).1) }

pub returns-then-is_decided : goal.returns-then-is_decided
unfolding abort_answer
returns-then-is_decided c =
    let b = c.args.self.now in
    let n = c.args.n.0 in
    let judged = and-accepted (first_of (open_tests places b n)) c.in_ok-q.ensures in
    refused-last (open_tests places b n) (decided (open_of places b n)) AlreadyDecided (place_of places b n) (place_of places b n) c.in_ok-q.ensures
    (ap (λ (q : ℕ). decided (open_at b q)) (sym judged.1) ∙ sym c.is_decided.ensures ∙ c.if-is_decided.true)

pub returns : goal.returns
unfolding abort_answer
returns c =
    let b = c.args.self.now in
    let n = c.args.n.0 in
    let judged = and-accepted (first_of (open_tests places b n)) c.in_ok-q.ensures in
    accepted-last (open_tests places b n) (decided (open_of places b n)) AlreadyDecided (place_of places b n) (place_of places b n) c.in_ok-q.ensures
    (ap (λ (q : ℕ). decided (open_at b q)) (sym judged.1) ∙ sym c.is_decided.ensures ∙ c.if-is_decided.false) judged.1
