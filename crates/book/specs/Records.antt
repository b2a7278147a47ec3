-- "Within an event, the step on a district's record is lent that record alone and changes only that record's phase and transaction." (document 01, The book)
use Rattle.std.specs.Prelude.{Bool, ◌&&◌, ◌||◌, cond, ℕ, eqb}
use Rattle.book.specs.declared.Record.{Record}
use Rattle.book.specs.Book.{no_record, computing, waiting}

-- the district is computing on the transaction number n
unfoldable pub computing_on : ℕ → Record → Bool
computing_on n r = computing r && eqb r.transaction.0 n

-- it is waiting on it
unfoldable pub waiting_on : ℕ → Record → Bool
waiting_on n r = waiting r && eqb r.transaction.0 n

-- it is busy on it
unfoldable pub busy_on : ℕ → Record → Bool
busy_on n r = computing_on n r || waiting_on n r

-- begin: "Touched districts go to computing."
abbrev pub begin_record : ℕ → Record
begin_record n = record { phase = 1; transaction = record { 0 = n } }

-- ready: "Computing to waiting."
abbrev pub ready_record : Record → Record
ready_record r = record { phase = 2; transaction = r.transaction }

-- give up: "the district is idle"
abbrev pub give_up_record : Record → Record
give_up_record r = no_record

-- hear: "If it is busy on that transaction it .. is idle."
unfoldable pub hear_record : ℕ → Record → Record
hear_record n r = cond (busy_on n r) no_record r
