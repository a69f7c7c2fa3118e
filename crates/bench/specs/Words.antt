-- From the arguments of the bench, here called words, to the service that they ask for (§8.2). The laws: Words.Laws.
use Rattle.std.specs.Prelude.{ℕ, zero, suc, cond, List, [], ◌∷◌, eqb, ltb, map, length, get_or, drop}
use Prim.Native.String.{String}
use Rattle.std.proofs.Math.Option.{Option, none, some}
use Rattle.facts.specs.Lists.{same}
use Rattle.facts.specs.Decimal.{bytes, number_in}
use Rattle.report.specs.declared.words.Mistake.TheVariants.{Unknown, Empty, Long, Many, Few, Kind}
use Rattle.writer.specs.declared.wanted.Wanted.{Wanted}
use Rattle.writer.specs.declared.wanted.Wanted.TheVariants.{Word as WordWanted, Sequence as SequenceWanted}
use Rattle.writer.specs.declared.wanted.Wanted.TheVariants.{Answers as AnswersWanted}
use Rattle.bench.specs.declared.words.Words.{Words}
use Rattle.bench.specs.declared.words.Row.{Row as GivenRow}
use Rattle.bench.specs.declared.words.Service.{Service}
use Rattle.bench.specs.declared.words.Service.TheVariants.{Wrong, OnSheet, Write, AddAnswers, House, Help}
use Rattle.bench.specs.declared.words.SheetService.TheVariants.{Judge, Certify, Word, Build, Read, Desk}
pub mod Laws

-- ---- one argument
-- the most bytes of an argument (§8.2)
abbrev pub most_argument : ℕ
most_argument = 4095

-- the service that an argument asks for, unless it is empty or too long, which are mistakes (§8.2)
unfoldable pub unless_unfit : List ℕ → Service → Service
unless_unfit w service = cond (eqb (length w) 0) (Wrong Empty) (cond (ltb most_argument (length w)) (Wrong Long) service)

-- the largest number that a record's two bytes of kind hold
abbrev pub most_kind : ℕ
most_kind = 65535

-- reading this kind; where there is none, a mistake
abbrev pub read_or : Option ℕ → Service
read_or none = Wrong Kind
read_or (some kind) = OnSheet (Read kind)

-- reading the kind that an argument of one digit or more gives, at most 65535 (§8.2); other arguments are a mistake
unfoldable pub kind_in : List ℕ → Service
kind_in w = read_or (number_in most_kind w)

-- reading the kind that the argument KIND gives, or what is wrong with that argument (§8.2)
unfoldable pub kind_of : List ℕ → Service
kind_of w = unless_unfit w (kind_in w)

-- the service, with inputs in the files that the arguments name, or what is wrong with the first unfit one (§8.2)
unfoldable pub on_files : Service → List (List ℕ) → Service
on_files service [] = service
on_files service (w ∷ ws) = unless_unfit w (on_files service ws)

-- what is wanted by so many names of files (§8.2): MACHINE and WORD, SEQUENCE with three, ANSWERS with four
abbrev pub wanted_by : ℕ → Wanted
wanted_by n = cond (ltb n 3) WordWanted (cond (ltb n 4) SequenceWanted AnswersWanted)

-- writing the sheet of the parts in the files that the arguments name (§8.2)
unfoldable pub write_of : List (List ℕ) → Service
write_of ws = on_files (Write (wanted_by (length ws))) ws

-- ---- the services
-- a service's name, how many arguments follow it, at least and at most, and which service it is, by those arguments
pub record Row : Type 0 where
  pub name : List ℕ
  pub least : ℕ
  pub most : ℕ
  pub service : List (List ℕ) → Service

-- the same service, whatever follows
abbrev pub always : Service → List (List ℕ) → Service
always service ws = service

-- a row whose name is this text
abbrev pub row : String → ℕ → ℕ → (List (List ℕ) → Service) → Row
row name least most service = record { name = bytes name; least = least; most = most; service = service }

infixl 20 ◌and◌
-- one row more
abbrev pub ◌and◌ : List Row → Row → List Row
rows and r = r ∷ rows

-- the services, a row for each name (§8.2): those that read one sheet from standard input and nothing else
unfoldable pub sheet_services : List Row
sheet_services =
    []
    and row "judge" 0 0 (always (OnSheet Judge))
    and row "certify" 0 0 (always (OnSheet Certify))
    and row "word" 0 0 (always (OnSheet Word))
    and row "build" 0 0 (always (OnSheet Build))
    and row "read" 1 1 (λ ws. kind_of (get_or ws 0 []))

-- and all of them
unfoldable pub services : List Row
services =
    sheet_services
    and row "write" 2 4 write_of
    and row "answers" 1 1 (on_files AddAnswers)
    and row "desk" 1 1 (on_files (OnSheet Desk))
    and row "house" 0 0 (always House)
    and row "help" 0 0 (always Help)
    and row "--help" 0 0 (always Help)
    and row "-h" 0 0 (always Help)

-- the service, where as many arguments follow its name as it takes, at least and at most; else too few or too many
unfoldable pub counted : ℕ → ℕ → ℕ → Service → Service
counted n least most service = cond (ltb n least) (Wrong Few) (cond (ltb most n) (Wrong Many) service)

-- where an argument is this name, the service; else the other
unfoldable pub found_or : List ℕ → List ℕ → Service → Service → Service
found_or w name service other = cond (same w name) service other

-- the service of the row whose name is w, with the arguments that follow it; no such row is a mistake
unfoldable pub named : List Row → List ℕ → List (List ℕ) → Service
named [] w ws = Wrong Unknown
named (r ∷ rows) w ws =
    found_or w r.name (counted (length ws) r.least r.most (r.service ws)) (named rows w ws)

-- what the arguments ask for (§8.2); without one the bench judges
unfoldable pub service_of : List (List ℕ) → Service
service_of [] = OnSheet Judge
service_of (w ∷ ws) = unless_unfit w (named services w ws)

-- ---- the arguments as the program has them: their number and the first five. Later ones are counted and not looked
-- at, which is enough: words_are, in Words.Laws

-- n arguments: these are the first, and empty ones follow
unfoldable pub words_of : ℕ → List (List ℕ) → List (List ℕ)
words_of zero ws = []
words_of (suc n) ws = get_or ws 0 [] ∷ words_of n (drop 1 ws)

-- the words that the program has
abbrev pub words_in : Words → List (List ℕ)
words_in words = words_of words.count (map (λ x. x.now) words.first)

-- the service of the first of these rows whose name is w, with so many arguments behind it; only a function within the
-- program promises it
unfoldable pub named_among : List GivenRow → List ℕ → ℕ → Service
named_among [] w n = Wrong Unknown
named_among (r ∷ rows) w n = found_or w r.name.now (counted n r.least r.most r.service) (named_among rows w n)
