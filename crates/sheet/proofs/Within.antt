-- Where the payload of a record lies that may end behind the sheet. Assumes nothing.
use Prim.Native.Nat.{ℕ, ◌+◌, ◌≤◌, ◌<◌}
use mathlib.Core.Path.{◌≡◌, refl}
use mathlib.Core.List.{List}
use lib.ListN.{length}
use borrow.Author.Tests.{le-leb, lt-leb}
use Rattle.sheet.specs.declared.record.Record.{Record}
use Rattle.std.specs.Prelude.{Option, Some, None}
use Rattle.sheet.specs.Format.{header, end}
use Rattle.sheet.specs.Reader.{payload_part, part_within}

module _ (s : List ℕ) {f : Option Record} {r : Record} (e : f ≡ Some r) where
  pub part_held : r.start + header + r.size ≤ length s → payload_part (Some r) ≡ part_within s f
  unfolding part_within end
  part_held l = rw (e, le-leb _ _ l) refl

  pub part_cut : length s < r.start + header + r.size → payload_part None ≡ part_within s f
  unfolding part_within end
  part_cut l = rw (e, lt-leb _ _ l) refl

pub part_none : (s : List ℕ) {f : Option Record} → f ≡ None → payload_part None ≡ part_within s f
unfolding part_within
part_none s e = rw e refl
