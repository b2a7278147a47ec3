-- Show's answer asks of the lent bytes only how many they are.
use mathlib.Core.Path.{◌≡◌}
use mathlib.Core.List.{List}
use Prim.Native.Nat.{ℕ}
use lib.ListN.{length}
use Rattle.book.specs.declared.Book.{Book}
use Rattle.book.specs.Show.{show_answer}

pub answer-by-length : (w : ℕ) (b : Book) (i : ℕ) (l m : List ℕ) → length l ≡ length m → show_answer w b i l ≡ show_answer w b i m
unfolding show_answer
answer-by-length w b i l m e = rw e
