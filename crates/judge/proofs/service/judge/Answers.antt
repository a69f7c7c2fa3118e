use Rattle.std.specs.Prelude.{Ok}
use Rattle.sheet.specs.Check.Laws.{hands_on, else_and}
use Rattle.std.proofs.Common.{ℕ, ◌≡◌, sym, ap, ◌∙◌, true, List, length}
use Rattle.sheet.specs.Check.{first_cause, ◌else◌, Clear, Check}
use Rattle.sheet.specs.declared.record.Records.{Records}
use Rattle.sheet.specs.Reader.{sequence_in, answers_in, answers_record}
use Rattle.sheet.specs.Reader.Laws.{sequence_read, answers_read, record_is as read_record}
use Rattle.certify.specs.Certification.{Certifiable}
use Rattle.certify.specs.Certification.Laws.{certifiable_proper, certifiable_commands, loaded_certifiable}
use Rattle.judge.specs.Judging.{judge_causes}
use Rattle.judge.specs.Judging.Laws.{marking_clear, certifying_clear}
use Rattle.judge.proofs.Answering.{checks_are, few_here, promised, judges_refused, judges_certified, judges_open}
use Rattle.sheet.specs.Format.{standard}
use Rattle.machine.specs.Machine.{meaning}
use Rattle.judge.proofs.service.judge.Goals as goal
use Rattle.judge.proofs.service.judge.Goals.{After-refuse-ten}

abbrev sheet : After-refuse-ten → List ℕ
sheet d = d.args.sheet.now

abbrev buffer : After-refuse-ten → List ℕ
buffer d = d.args.marks.now

-- ---- what is known behind the checks
abbrev both : After-refuse-ten → Check
both d = d.load_sequence-loaded.result.check else d.refuse-ten.result

sequence_is : (d : After-refuse-ten) → d.payload-xs.result.now ≡ sequence_in (sheet d)
sequence_is d =
    sequence_read d.args.sheet d.payload-xs.result d.load_sequence-loaded.ensures.records d.payload-xs.ensures

answers_are : (d : After-refuse-ten) → d.payload-ys.result.now ≡ answers_in (sheet d)
answers_are d =
    answers_read d.args.sheet d.payload-ys.result d.load_sequence-loaded.ensures.records d.payload-ys.ensures

record_is : (d : After-refuse-ten) → d.record_or-start.result ≡ answers_record (sheet d)
record_is d =
    d.record_or-start.ensures
    ∙ read_record standard standard.answers (sheet d)
    (ap (λ (r : Records). r.answers) d.load_sequence-loaded.ensures.records)

check_is : (d : After-refuse-ten) {check : Check} → check ≡ both d
    → check ≡ first_cause (judge_causes (length (buffer d)) (sheet d))
check_is d e =
    checks_are (length (buffer d)) (sheet d) (record_is d) (sequence_is d) (answers_are d)
    d.load_sequence-loaded.ensures.check d.refuse-ten.ensures e

loaded_clear : (d : After-refuse-ten) {check : Check} → check ≡ both d → check ≡ Clear
    → d.load_sequence-loaded.result.check ≡ Clear
loaded_clear d e clear =
    d.load_sequence-loaded.ensures.check
    ∙ marking_clear (length (buffer d)) (sheet d) (sym (check_is d e) ∙ clear)

certifiable : (d : After-refuse-ten) {check : Check} → check ≡ both d → check ≡ Clear
    → Certifiable (sheet d) (length (buffer d)) d.load_sequence-loaded.result
certifiable d e clear =
    loaded_certifiable true _ _ d.load_sequence-loaded.ensures (loaded_clear d e clear)
    (certifying_clear (length (buffer d)) (sheet d) (sym (check_is d e) ∙ clear))

pub returns-in_err-and : goal.returns-in_err-and
returns-in_err-and c =
    let d = (goal.at.returns-in_err-and c).After-refuse-ten in
    let whole = promised (judges_refused (sheet d) (buffer d) (check_is d (c.and.ensures ∙ else_and _ _)) c.in_err-and.was) in
    rw (hands_on _ c.from_residual.ensures.1) (record { judges = whole.0; identity = whole.1 })

pub certify_loaded-requires : goal.certify_loaded-requires
certify_loaded-requires c =
    certifiable (goal.at.certify_loaded-requires c).After-refuse-ten (c.and.ensures ∙ else_and _ _)
    c.in_ok-and.was

pub compare-requires : goal.compare-requires
compare-requires c =
    let d = (goal.at.compare-requires c).After-refuse-ten in
    let clear = c.in_ok-and.was in
    let e = (c.and.ensures ∙ else_and _ _) in
    let h = certifiable d e clear in
    record {
      proper = rw c.by_columns-machine.ensures (certifiable_proper _ _ h);
      commands = rw (sequence_is d, c.by_columns-machine.ensures) (certifiable_commands _ _ h);
      few = few_here (length (buffer d)) (sheet d) (record_is d) (sequence_is d) (answers_are d) (check_is d e) clear;
    }

pub returns-in-Certified : goal.returns-in-Certified
returns-in-Certified c =
    let d = (goal.at.returns-in-Certified c).After-refuse-ten in
    let clear = c.in_ok-and.was in
    let e = (c.and.ensures ∙ else_and _ _) in
    let whole = promised (judges_certified (sheet d) (buffer d) (check_is d e) clear
    c.certify_loaded.ensures (ap Ok c.in-Certified.is)
    (ap meaning c.by_columns-machine.ensures ∙ c.load_sequence-loaded.ensures.machine (loaded_clear d e clear)) (sequence_is d)
    (answers_are d) c.compare.ensures) in
    record { judges = whole.0; identity = whole.1 }

pub returns-in-Open : goal.returns-in-Open
returns-in-Open c =
    let d = (goal.at.returns-in-Open c).After-refuse-ten in
    let whole = promised (judges_open (sheet d) (buffer d) (check_is d (c.and.ensures ∙ else_and _ _)) c.in_ok-and.was
    c.certify_loaded.ensures (ap Ok c.in-Open.is)) in
    record { judges = whole.0; identity = whole.1 }
