-- The measure is twice the length, and one more for first_word, which passes it on.
use Rattle.std.proofs.Common.{◌≡◌, ℕ, ◌+◌, ◌*◌, ◌<◌}
use Rattle.std.proofs.Math.Option.{none}
use Rattle.word.specs.Searching.{word_behind}
use Rattle.word.proofs.search.+behind_first_word.Given as goal

abbrev pub decreases-behind : goal.decreases-behind
decreases-behind l = 2 * l.length

abbrev pub decreases-first_word : goal.decreases-first_word
decreases-first_word l = 2 * l.length + 1

abbrev pub invariant-first_word-loop-c : goal.invariant-first_word-loop-c
invariant-first_word-loop-c l =
    (x : ℕ) → x < l.c → word_behind l.m.k l.m.next l.m.answer l.pairs x l.length ≡ none
