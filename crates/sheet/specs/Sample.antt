-- The sheet of document 01 ("Sheet, in hex") and what it prints.
use Rattle.std.specs.Prelude.{List, [], ◌∷◌, ◌++◌, ℕ}
use Rattle.conditions.specs.Text.{bytes}

-- "02 0A 0B 02 00 00 05 01 00 02 00 08": two districts, two items, eight events
abbrev pub sample_head : List ℕ
sample_head = 2 ∷ 10 ∷ 11 ∷ 2 ∷ 0 ∷ 0 ∷ 5 ∷ 1 ∷ 0 ∷ 2 ∷ 0 ∷ 8 ∷ []

-- "01 03 01 00 00 01 02 00 FF FF 02 01 00 01": begin, three steps
abbrev pub sample_begin : List ℕ
sample_begin = 1 ∷ 3 ∷ 1 ∷ 0 ∷ 0 ∷ 1 ∷ 2 ∷ 0 ∷ 255 ∷ 255 ∷ 2 ∷ 1 ∷ 0 ∷ 1 ∷ []

-- "02 00 01 00 02 00 01 01 03 00 01 00 07 00 04 00 01 06 00 01 00 07 00": ready twice, give up, show, complete, hear, show
abbrev pub sample_events : List ℕ
sample_events = 2 ∷ 0 ∷ 1 ∷ 0 ∷ 2 ∷ 0 ∷ 1 ∷ 1 ∷ 3 ∷ 0 ∷ 1 ∷ 0 ∷ 7 ∷ 0 ∷ 4 ∷ 0 ∷ 1 ∷ 6 ∷ 0 ∷ 1 ∷ 0 ∷ 7 ∷ 0 ∷ []

-- the sheet
abbrev pub sample : List ℕ
sample = sample_head ++ sample_begin ++ sample_events

-- what is printed
abbrev pub sample_printed : List ℕ
sample_printed = bytes "1 0 1 1\n2 0\n3 0\n4 0\n5 0 2 4:T1 5:!T1\n6 0\n7 0\n8 0 1 4:*\nend\n"
