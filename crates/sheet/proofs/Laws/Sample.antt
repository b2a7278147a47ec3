-- The sheet of document 01 prints what document 01 says, by computation. The test runs once; `refl` for two texts would run the sheet again for every byte.
use mathlib.Core.Path.{◌≡◌, refl}
use mathlib.Core.Bool.{true}
use lib.Dec.{eqb}
use borrow.Author.Tests.{eqb-true}
use Rattle.conditions.specs.Places.{places, with_place}
use Rattle.conditions.specs.Below.{all, any, first, those}
use Rattle.conditions.specs.Sets.{set_of, odd, member}
use Rattle.conditions.specs.Conditions.{full, union, intersection, complement, empty, lowest, completed, selected, reduced, depends_on}
use Rattle.conditions.specs.Products.{tag_at, allows, allowed, within, dropped, needed, prime, primes, prime_from}
use Rattle.conditions.specs.Text.{digits, decimal, prefixed, joined, tag_text, tags_text, product_text, condition_text}
use Rattle.conditions.specs.Written.{answer, written}
use Rattle.polyvalues.specs.Values.{in_range, sum, signed, of_bytes, value_text}
use Rattle.polyvalues.specs.Pairs.{asked, depends, certain}
use Rattle.polyvalues.specs.Polyvalues.{well_formed, in_use, tidy, sound, packed, fitted}
use Rattle.polyvalues.specs.Simplify.{insert, join, simplified_from, simplified, table_below, canon_over, canon}
use Rattle.polyvalues.specs.Operations.{reduce, select, different, together, same_rows}
use Rattle.polyvalues.specs.Text.{pair_text, line_text}
use Rattle.book.specs.Answers.{first_of}
use Rattle.book.specs.Rows.{rows_from}
use Rattle.book.specs.Book.{no_item, no_book, record_on, item_on, place_of, free_place, item_depends, some_depends, some_on}
use Rattle.book.specs.Programs.{steps, declines, after, after_all, declined_from, run, names, touches}
use Rattle.book.specs.Forget.{needed as needed_book_forget, kept, remembered, forget}
use Rattle.book.specs.SoundTest.{same_polyvalue, same_item, zero_record, zero_open, sound_busy, sound_record, sound_district, sound_pending, sound_row, sound_item, sound_at, sound_open, sound_place, sound as sound_book_sound_test}
use Rattle.book.specs.Records.{computing_on, waiting_on, busy_on, hear_record}
use Rattle.book.specs.Items.{concerned, split, reduce_item}
use Rattle.book.specs.Transactions.{done}
use Rattle.book.specs.Open.{good_opening, opened_item, opened_book, opened}
use Rattle.book.specs.Begin.{bad_step, bad_program, outside, results, grant, some_busy, too_many, begin_answer, touches_district, begin_item, begun, begin}
use Rattle.book.specs.Ready.{ready_answer, readied, ready}
use Rattle.book.specs.GiveUp.{give_up_answer, give_up_item, gave_up, give_up}
use Rattle.book.specs.Decide.{some_not_ready, complete_answer, abort_answer, decide, complete, abort}
use Rattle.book.specs.Hear.{hear_answer, hear_item, heard, hear}
use Rattle.book.specs.Show.{held_line, show_answer, shown, show}
use Rattle.book.proofs.Laws.Same.{same-rows}
use Rattle.sheet.specs.Readers.{repeat, one_more, byte, word, part, end}
use Rattle.sheet.specs.Events.{program, at_district, on_number, of_item, fields, event, event_at}
use Rattle.sheet.specs.Sections.{code, districts, value, item, items, events, sheet}
use Rattle.sheet.specs.Open.{refused, opened_sheet, open_sheet}
use Rattle.sheet.specs.Lines.{line, event_line, refusal_line, end_line, line_answer, line_written}
use Rattle.sheet.specs.Play.{of_show, event_result, played, played_buffer}
use Rattle.sheet.specs.Output.{event_lines, printed, output}
use Rattle.sheet.specs.Sample.{sample, sample_printed}

test : same_rows eqb (output places sample) sample_printed ≡ true
unfolding all any first those set_of odd member with_place full union intersection complement empty lowest completed selected reduced depends_on tag_at allows allowed within dropped needed prime primes prime_from digits decimal prefixed joined tag_text tags_text product_text condition_text answer written in_range sum signed of_bytes value_text asked depends certain well_formed in_use tidy sound packed fitted insert join simplified_from simplified table_below canon_over canon reduce select different together pair_text line_text first_of rows_from no_item no_book record_on item_on place_of free_place item_depends some_depends some_on steps declines after after_all declined_from run names touches needed_book_forget kept remembered forget same_polyvalue same_item zero_record zero_open sound_busy sound_record sound_district sound_pending sound_row sound_item sound_at sound_open sound_place sound_book_sound_test computing_on waiting_on busy_on hear_record concerned split reduce_item done good_opening opened_item opened_book opened bad_step bad_program outside results grant some_busy too_many begin_answer touches_district begin_item begun begin ready_answer readied ready give_up_answer give_up_item gave_up give_up some_not_ready complete_answer abort_answer decide complete abort hear_answer hear_item heard hear held_line show_answer shown show repeat one_more byte word part end program at_district on_number of_item fields event event_at code districts value item items events sheet refused opened_sheet open_sheet line event_line refusal_line end_line line_answer line_written of_show event_result played played_buffer event_lines printed output
test = refl

pub sample-printed : output places sample ≡ sample_printed
sample-printed = same-rows eqb eqb-true (output places sample) sample_printed test
