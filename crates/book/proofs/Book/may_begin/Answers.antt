-- The program and then its room.
use mathlib.Core.Path.{◌≡◌, ap, ◌∙◌}
use mathlib.Core.List.{List}
use borrow.Author.Tests.{not-false}
use Rattle.std.proofs.Common.{rules}
use Rattle.std.specs.Prelude.{Ok, Err}
use Rattle.std.specs.Result.{result_and}
use Rattle.conditions.specs.Places.{places}
use Rattle.book.specs.declared.Step.{Step}
use Rattle.book.specs.declared.program.Program.{Program}
use Rattle.book.specs.Answers.{accepted, first_of}
use Rattle.book.specs.Programs.{steps}
use Rattle.book.specs.States.{steps_of, program_of}
use Rattle.book.specs.Judged.{program_tests, room_tests, room_of}
use Rattle.book.proofs.Reading.{steps-read}
use Rattle.book.proofs.Laws.Answers.{and-accepted, test-false}
use Rattle.book.proofs.Judging.{refused-first, refused-second, accepted-both}
use Rattle.book.proofs.Book.may_begin.Goals as goal

pub returns-in_err-p : goal.returns-in_err-p
returns-in_err-p c =
    let b = c.args.self.now in
    let xs = steps c.args.bytes.now in
    let same : c.from_residual.result ≡ Err c.in_err-p.field-0.0 = search rules in
    same ∙ refused-first (program_tests places b c.args.bytes.now) (room_tests places b xs) (program_of xs) (room_of places b xs) (program_of xs, room_of places b xs) c.in_err-p.ensures

pub room-requires : goal.room-requires
room-requires c =
    let judged = and-accepted (first_of (program_tests places c.args.self.now c.args.bytes.now)) c.in_ok-p.ensures in
    not-false _ (test-false _ _ _ (ap accepted judged.0))

pub returns-in_err-room : goal.returns-in_err-room
returns-in_err-room c =
    let b = c.args.self.now in
    let xs = steps c.args.bytes.now in
    let judged = and-accepted (first_of (program_tests places b c.args.bytes.now)) c.in_ok-p.ensures in
    let read : steps_of c.in_ok-p.p ≡ xs = ap (λ (p : Program). steps_of p) judged.1 ∙ steps-read xs in
    let same : c.from_residual-in_err-room.result ≡ Err c.in_err-room.field-0.0 = search rules in
    same ∙ refused-second (program_tests places b c.args.bytes.now) (room_tests places b xs) (program_of xs) (room_of places b xs) (program_of xs, room_of places b xs) c.in_ok-p.ensures
    (c.in_err-room.ensures ∙ ap (λ (ys : List Step). result_and (first_of (room_tests places b ys)) (Ok (room_of places b ys))) read)

pub returns : goal.returns
returns c =
    let b = c.args.self.now in
    let xs = steps c.args.bytes.now in
    let judged = and-accepted (first_of (program_tests places b c.args.bytes.now)) c.in_ok-p.ensures in
    let read : steps_of c.in_ok-p.p ≡ xs = ap (λ (p : Program). steps_of p) judged.1 ∙ steps-read xs in
    let room = c.in_ok-room.ensures ∙ ap (λ (ys : List Step). result_and (first_of (room_tests places b ys)) (Ok (room_of places b ys))) read in
    accepted-both (program_tests places b c.args.bytes.now) (room_tests places b xs) (program_of xs) (room_of places b xs) (program_of xs, room_of places b xs) c.in_ok-p.ensures room
    (λ k. (judged.1 k, (and-accepted (first_of (room_tests places b xs)) room).1 k))
