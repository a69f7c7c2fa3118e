-- What is printed about the arguments of the bench, here called words (§8.2): the list of services, and what is wrong.
use Rattle.std.specs.Prelude.{ℕ, List, ◌++◌}
use Rattle.facts.specs.Decimal.{bytes}
use Rattle.report.specs.declared.words.Mistake.{Mistake}
use Rattle.report.specs.declared.words.Mistake.TheVariants.{Unknown, Empty, Long, Many, Few, Kind}

-- the lines of the services that read one sheet from standard input and nothing else (§8.2)
unfoldable pub sheet_help : List ℕ
sheet_help =
    bytes "bench, bench judge      judge the sheet on standard input: PASS, WRONG, UNHEARD, UNFINISHED or REFUSED\n"
    ++ bytes "bench certify           certify the sequence of the sheet on standard input: CERTIFIED, OPEN or REFUSED\n"
    ++ bytes "bench word              find a separating word for the machine of the sheet on standard input: the sheet with it as record 2; WORD, NONE or REFUSED on standard error\n"
    ++ bytes "bench build             build the sequence of the sheet on standard input: the sheet with it as record 3\n"
    ++ bytes "bench read KIND         read the sheet on standard input: the payload of record 1 machine, 2 word, 3 sequence, 4 answers\n"

-- the list of services, a line each (§8.2). Its text is fixed here; the specification leaves it free
unfoldable pub help_text : List ℕ
help_text =
    sheet_help
    ++ bytes "bench write MACHINE WORD [SEQUENCE [ANSWERS]]  write the sheet of the payloads in these files, as bench read gives them\n"
    ++ bytes "bench answers FILE      put the answers in that file into the sheet on standard input: the sheet with them as record 4\n"
    ++ bytes "bench desk SHEET        bring a unit to its start by the sheet in that file: COMMAND, answers on standard input, HOME or STRANGER\n"
    ++ bytes "bench house             the house unit's sheet: machine and word\n"
    ++ bytes "bench help, --help, -h  these lines\n"

-- what is wrong with the arguments (§8.2)
abbrev pub mistake_text : Mistake → List ℕ
mistake_text Unknown = bytes "the first argument names no service"
mistake_text Empty = bytes "an argument is empty"
mistake_text Long = bytes "an argument is longer than 4095 bytes"
mistake_text Many = bytes "too many arguments for this service"
mistake_text Few = bytes "too few arguments for this service"
mistake_text Kind = bytes "KIND is not a decimal number from 0 to 65535"

-- the bytes of the longest of these
abbrev pub longest_mistake : ℕ
longest_mistake = 44

-- the line that tells what is wrong (§8.2), with this text
abbrev pub mistake_of : List ℕ → List ℕ
mistake_of text = bytes "bench: " ++ text ++ bytes "; bench help lists the services\n"

-- the line of a mistake (§8.2)
abbrev pub mistake_line : Mistake → List ℕ
mistake_line mistake = mistake_of (mistake_text mistake)
