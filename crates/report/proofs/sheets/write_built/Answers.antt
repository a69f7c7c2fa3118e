use Rattle.std.proofs.Common.{arith, ℕ, length, ◌≡◌, refl, sym, ap, ap₂, ◌∙◌, List, [], ◌∷◌, ◌++◌}
use lib.ListN.{length-replicate}
use Rattle.sheet.specs.Check.Laws.{hands_on}
use Rattle.sheet.specs.declared.record.Record.{Record}
use Rattle.sheet.specs.declared.record.Records.{Records}
use Rattle.sheet.specs.Format.{standard}
use Rattle.sheet.specs.Reader.{records_in, machine_payload, word_in}
use Rattle.sheet.specs.Reader.Laws.{machine_read, word_read, record_is}
use Rattle.sheet.specs.Joining.{joined, record_in, fresh}
use Rattle.sheet.specs.Joining.Laws.{joined_append}
use Rattle.sheet.specs.Promise.Laws.{by_cause, refused_writes, puts_writes}
use Rattle.machine.specs.Limits.{most_sequence}
use Rattle.report.specs.Sheets.{built_sheet}
use Rattle.report.proofs.Making.{HoldsBuilt, built_refuses, built_holds}
use Rattle.report.proofs.Putting.{next_append, next_same, next_long, next_last, next_prints}
use Rattle.report.proofs.sheets.write_built.Goals.{After-payload-2}
use Rattle.report.proofs.sheets.write_built.Goals as goal

holds : (d : After-payload-2)
    → HoldsBuilt d.args.sheet.now d.build_with_records-built.new.buffer
    d.in_ok-n.n
holds d =
    built_holds d.args.sheet.now (length-replicate {A = ℕ} most_sequence 0)
    d.build_with_records-built.ensures.builds d.in_ok-n.was

records-are : (d : After-payload-2)
    → d.build_with_records-built.result.1 ≡ records_in standard d.args.sheet.now
records-are d = d.build_with_records-built.ensures.records_value

payload-is : (d : After-payload-2)
    → d.payload.result.now ≡ machine_payload d.args.sheet.now
payload-is d =
    machine_read d.args.sheet d.payload.result (records-are d) d.payload.ensures

word_is : (d : After-payload-2) → d.payload-2.result.now ≡ word_in d.args.sheet.now
word_is d =
    word_read d.args.sheet d.payload-2.result (records-are d) d.payload-2.ensures

pub put_two-requires-clause-short : goal.put_two-requires-clause-short
put_two-requires-clause-short c =
    let d = (goal.at.put_two-requires-clause-short c).After-payload-2 in
    omega (arith, ap length (payload-is d), ap length (word_is d), (holds d).machine, (holds d).word)

pub slice_bounds-sequence-end : goal.slice_bounds-sequence-end
slice_bounds-sequence-end c = (holds (goal.at.slice_bounds-sequence-end c).After-payload-2).inside

pub slice_bounds-put_role-end : goal.slice_bounds-put_role-end
slice_bounds-put_role-end c = (holds (goal.at.slice_bounds-put_role-end c).After-payload-2).sized

pub put_role-requires : goal.put_role-requires
put_role-requires c =
    let d = (goal.at.put_role-requires c).After-payload-2 in
    record {
      short = omega (arith, (holds d).few, (holds d).sized);
      room = omega (
        arith,
        ap length c.new-whole.ensures.bytes,
        c.put_two.ensures.value,
        next_long c.put_two.ensures.next,
        ap length (payload-is d),
        ap length (word_is d),
        (holds d).machine,
        (holds d).word,
        (holds d).few,
        (holds d).sized,
      );
    }

pub returns : goal.returns
unfolding built_sheet
returns c =
    let d = (goal.at.returns c).After-payload-2 in
    let machine : ℕ × List ℕ = record_in standard c.args.sheet.now standard.machine in
    let word = fresh standard.word (word_in c.args.sheet.now) in
    puts_writes _ (holds d).clear
    (next_prints c.new-whole.ensures.bytes c.new-whole.ensures.end
    (next_same
    (ap₂ (λ (rs qs : List (ℕ × List ℕ)). joined rs ++ joined qs)
    (ap₂ (λ (r q : ℕ × List ℕ). r ∷ q ∷ [])
    (ap₂ (λ (kind : ℕ) (p : List ℕ). (kind, p))
    (ap (λ (r : Record). r.kind)
    (c.record_or.ensures ∙ record_is standard _ _ (ap (λ (r : Records). r.machine) (records-are d))))
    (payload-is d))
    (ap (fresh standard.word) (word_is d)))
    (ap (λ (xs : List ℕ). fresh standard.sequence xs ∷ []) (holds d).built) ∙ sym
    (joined_append (machine ∷ word ∷ []) (fresh standard.sequence _ ∷ [])))
    (next_append _ _ c.put_two.ensures.next
    (next_last (fresh standard.sequence _) c.put_role.ensures))))

pub returns-in_err-n : goal.returns-in_err-n
returns-in_err-n c =
    rw (hands_on _ c.from_residual.ensures.1)
    (refused_writes _
    (by_cause (built_refuses c.args.sheet.now
    (length-replicate {A = ℕ} most_sequence 0) c.build_with_records-built.ensures.builds c.in_err-n.was))
    refl)
