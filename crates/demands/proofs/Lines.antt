-- The lines of examples 8 and 9, by computation: the calls run once more, and the primes of each condition are sought.
use mathlib.Core.Path.{refl}
use Rattle.conditions.specs.Below.{all, any, first, those}
use Rattle.conditions.specs.Sets.{odd, member, set_of}
use Rattle.conditions.specs.Places.{with_place}
use Rattle.conditions.specs.Conditions.{full, union, intersection, complement, empty, completed, selected, reduced, depends_on}
use Rattle.conditions.specs.Products.{tag_at, allows, within, dropped, prime, primes, needed as tag_needed}
use Rattle.conditions.specs.Text.{digits, decimal, prefixed, joined, tag_text, tags_text, product_text, condition_text}
use Rattle.polyvalues.specs.Values.{in_range, signed, of_bytes, value_text}
use Rattle.polyvalues.specs.Pairs.{depends, certain}
use Rattle.polyvalues.specs.Polyvalues.{well_formed, in_use, tidy, packed, sound as sound_polyvalue}
use Rattle.polyvalues.specs.Simplify.{insert, join, simplified_from, simplified, table_below, canon_over, canon}
use Rattle.polyvalues.specs.Operations.{reduce, select, different, together}
use Rattle.polyvalues.specs.Text.{pair_text, line_text}
use Rattle.book.specs.Answers.{first_of}
use Rattle.book.specs.Rows.{rows_from}
use Rattle.book.specs.Book.{no_item, no_book, record_on, item_on, place_of, free_place, item_depends, some_depends, some_on}
use Rattle.book.specs.Programs.{steps, declines, after, after_all, declined_from, run, names, touches}
use Rattle.book.specs.Forget.{needed, kept, remembered, forget}
use Rattle.book.specs.SoundTest.{same_polyvalue, same_item, zero_record, zero_open, sound_busy, sound_record, sound_district, sound_pending, sound_row, sound_item, sound_at, sound_open, sound_place, sound}
use Rattle.book.specs.Records.{computing_on, waiting_on, busy_on, hear_record}
use Rattle.book.specs.Items.{concerned, split, reduce_item}
use Rattle.book.specs.Transactions.{done}
use Rattle.book.specs.Open.{good_opening, opened_item, opened_book, opened}
use Rattle.book.specs.Begin.{bad_step, bad_program, outside, results, grant, some_busy, too_many, begin_answer, touches_district, begin_item, begun, begin}
use Rattle.book.specs.Ready.{ready_answer, readied, ready}
use Rattle.book.specs.GiveUp.{give_up_answer, give_up_item, gave_up, give_up}
use Rattle.book.specs.Decide.{some_not_ready, complete_answer, decide, complete}
use Rattle.book.specs.Hear.{hear_answer, hear_item, heard, hear}
use Rattle.book.specs.Examples.{book_of, left_open, unsure, twice, told}
use Rattle.book.specs.Show.{held_line}
use Rattle.demands.specs.Demands.{Lines}

pub lines : Lines
unfolding all any first odd member set_of with_place full union intersection complement empty completed selected reduced depends_on in_range signed of_bytes depends certain well_formed in_use tidy packed sound_polyvalue insert join simplified_from simplified table_below canon_over canon reduce select different together first_of rows_from no_item no_book record_on item_on place_of free_place item_depends some_depends some_on steps declines after after_all declined_from run names touches needed kept remembered forget same_polyvalue same_item zero_record zero_open sound_busy sound_record sound_district sound_pending sound_row sound_item sound_at sound_open sound_place sound computing_on waiting_on busy_on hear_record concerned split reduce_item done good_opening opened_item opened_book opened bad_step bad_program outside results grant some_busy too_many begin_answer touches_district begin_item begun begin ready_answer readied ready give_up_answer give_up_item gave_up give_up some_not_ready complete_answer decide complete hear_answer hear_item heard hear book_of left_open unsure twice told those tag_at allows within dropped tag_needed prime primes digits decimal prefixed joined tag_text tags_text product_text condition_text value_text pair_text line_text held_line
lines = record { eight = refl; nine = refl }
