use Rattle.std.proofs.Common.{arith, ◌≡◌, ◌∙◌, refl, sym, ap, ◌+◌, ◌≤◌, length, length-take-le, rules}
use Rattle.sheet.specs.Reader.{word_in, sequence_in}
use Rattle.machine.specs.Machine.{meaning}
use Rattle.sheet.specs.Reader.Laws.{word_read, sequence_read}
use Rattle.certify.specs.Certification.Laws.{certifiable_proper, certifiable_commands, certifiable_fits}
use Rattle.certify.proofs.Answering.{certifies_clear}
use Rattle.certify.proofs.service.certify_loaded.Goals as goal
use Rattle.certify.proofs.service.certify_loaded.Goals.{After-machine-1}

word_is : (d : After-machine-1) → d.payload-w.result.now ≡ word_in d.args.sheet.now
word_is d =
    word_read d.args.sheet d.payload-w.result d.requires.records d.payload-w.ensures

sequence_is : (d : After-machine-1) → d.payload-xs.result.now ≡ sequence_in d.args.sheet.now
sequence_is d =
    sequence_read d.args.sheet d.payload-xs.result d.requires.records d.payload-xs.ensures

fits : (d : After-machine-1) → length d.payload-xs.result.now + 1 ≤ length d.args.marks.now
fits d = omega (arith, ap length (sequence_is d), certifiable_fits _ _ d.requires)

pub slice_bounds-recognise-end : goal.slice_bounds-recognise-end
slice_bounds-recognise-end c = let room = fits c in search rules

pub slice_bounds-recognise-end-2 : goal.slice_bounds-recognise-end-2
slice_bounds-recognise-end-2 c =
    sym (length-take-le _ c.args.marks.now (fits (goal.at.slice_bounds-recognise-end-2 c).After-machine-1))

pub recognise-requires : goal.recognise-requires
recognise-requires c =
    let d = (goal.at.recognise-requires c).After-machine-1 in
    let h = c.requires in
    record {
      proper = rw c.by_columns-machine.ensures (certifiable_proper _ _ h);
      commands = rw (sequence_is d, c.by_columns-machine.ensures) (certifiable_commands _ _ h);
      marks_len = length-take-le _ _ (fits d);
    }

pub returns : goal.returns
returns c =
    let d = (goal.at.returns c).After-machine-1 in
    certifies_clear c.args.sheet.now c.args.marks.now c.requires.clear
    (ap meaning c.by_columns-machine.ensures ∙ c.requires.machine) (word_is d) (sequence_is d) c.recognise.ensures.value c.recognise.ensures.marks_after refl
