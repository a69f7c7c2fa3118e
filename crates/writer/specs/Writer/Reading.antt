-- How a written sheet is read (§15.4): each wanted part at its offset, the others missing; and for needs that were
-- written, the causes of loading and 10 are absent.
use Rattle.std.specs.Prelude.{is_none}
use Rattle.std.specs.Prelude.{ℕ, ◌+◌, ◌≤◌, ◌≡◌, refl, Bool, true, false, ◌&&◌, length, take}
use Rattle.std.proofs.Common.{sym, subst, ◌∙◌, true≢false}
use Rattle.std.proofs.Math.Path.{ap, ap₂}
use mathlib.Core.List.{List, [], ◌∷◌, ◌++◌}
use Rattle.facts.specs.Tests.{both_true}
use Rattle.sheet.specs.Check.{◌else◌, first_cause, Clear, Refused}
use Rattle.sheet.specs.Promise.{Written}
use Rattle.std.specs.Prelude.{Some, None}
use Rattle.sheet.specs.declared.record.Record.{Record}
use Rattle.sheet.specs.declared.reader.Needs.{Needs}
use Rattle.sheet.specs.Check.Laws.{absent, present, else_clear}
use Rattle.sheet.specs.Format.{standard, header, longest, of_kind, ◌or◌, find}
use Rattle.sheet.specs.Reader.{when, needed, refusal_of, record_or, record_of, payload_part, part}
use Rattle.sheet.specs.Reader.{content}
use Rattle.sheet.specs.Reader.{machine_payload, word_in, sequence_in, answers_in, machine_record, word_record}
use Rattle.sheet.specs.Reader.{sequence_record, answers_record}
use Rattle.sheet.specs.Promise.Laws.{writes_first}
use Rattle.sheet.specs.Joining.{joined, placed, InOrder, payload_of, has, has_all}
use Rattle.sheet.specs.Joining.Laws.{record_joined, refusal_joined, part_joined, content_joined, causes_joined}
use Rattle.machine.specs.Machine.{machine_of}
use Rattle.machine.specs.Causes.{cause10, table_causes, machine_in, load_causes}
use Rattle.machine.specs.Causes.Laws.{few_clear, table_anywhere}
use Rattle.machine.specs.Causes.Lists.{distinguishes_clear, sequence_clear, machine_causes_are, loading_clear}
use Rattle.writer.specs.declared.wanted.Wanted.{Wanted}
use Rattle.writer.specs.declared.wanted.Wanted.TheVariants.{Word, Sequence, Answers}
use Rattle.writer.specs.Parts.{Parts, needs_of, records_of, sheet_of, word_start, sequence_start, answers_start}
use Rattle.writer.specs.Writer.{part_causes, WritesParts}
use Rattle.writer.specs.Writer.Laws.{WellFormed, clear_formed, formed_order, formed_short}

-- ---- reading
-- reading a role of a sheet gives this payload: it is not refused, the record starts at this offset, and the part lies
-- behind its header
pub record Gives (t ks : List ℕ) (at : ℕ) (xs : List ℕ) : Type 0 where
  pub clear : refusal_of standard ks t ≡ Clear
  pub start : (record_of standard ks t).start ≡ at
  pub position : part standard ks t ≡ record { from = at + header; size = length xs }
  pub payload : content standard ks t ≡ xs

-- that of a role that is wanted; reading another one is refused, since it is missing
abbrev pub GivesWhen : Bool → List ℕ → List ℕ → ℕ → List ℕ → Type 0
GivesWhen true t ks at xs = Gives t ks at xs
GivesWhen false t ks at xs = refusal_of standard ks t ≡ Refused 2 (length t)

-- all four
pub record ReadsBack (v : Wanted) (p : Parts) (t : List ℕ) : Type 0 where
  pub machine : Gives t standard.machine 0 p.machine
  pub word : Gives t standard.word (word_start p) p.word
  pub sequence : GivesWhen (needs_of v).sequence t standard.sequence (sequence_start p) p.sequence
  pub answers : GivesWhen (needs_of v).answers t standard.answers (answers_start p) p.answers

module _ (rs : List (ℕ × List ℕ)) (order : InOrder standard 0 rs) (short : length (joined rs) ≤ longest) where
  found_gives : (ks : List ℕ) {r : Record} (xs : List ℕ) → find ks (placed 0 rs) ≡ Some r → r.size ≡ length xs
      → payload_of ks rs ≡ xs → Gives (joined rs) ks r.start xs
  found_gives ks {r} xs e sized is = record {
    clear = refusal_joined standard rs order short ks ∙ absent 2 (length (joined rs)) (ap is_none e);
    start = ap (λ (q : Record). q.start) (record_joined standard rs order short ks ∙ ap record_or e);
    position =
        part_joined standard rs order short ks
        ∙ ap payload_part e
        ∙ ap (λ (n : ℕ). record { from = r.start + header; size = n }) sized;
    payload = content_joined standard rs order short ks ∙ is;
  }

  missing_refused : (ks : List ℕ) → find ks (placed 0 rs) ≡ None
      → refusal_of standard ks (joined rs) ≡ Refused 2 (length (joined rs))
  missing_refused ks e = refusal_joined standard rs order short ks ∙ present 2 (length (joined rs)) (ap is_none e)

reads : (v : Wanted) (p : Parts) → WellFormed v p → ReadsBack v p (sheet_of v p)
unfolding sheet_of find of_kind ◌or◌
reads v p h = go v (formed_order p v h) (formed_short p v h)
  where
    go : (v : Wanted) → InOrder standard 0 (records_of v p) → length (joined (records_of v p)) ≤ longest
        → ReadsBack v p (joined (records_of v p))
    go Word order short = record {
      machine = found_gives (records_of Word p) order short standard.machine p.machine refl refl refl;
      word = found_gives (records_of Word p) order short standard.word p.word refl refl refl;
      sequence = missing_refused (records_of Word p) order short standard.sequence refl;
      answers = missing_refused (records_of Word p) order short standard.answers refl;
    }
    go Sequence order short = record {
      machine = found_gives (records_of Sequence p) order short standard.machine p.machine refl refl refl;
      word = found_gives (records_of Sequence p) order short standard.word p.word refl refl refl;
      sequence = found_gives (records_of Sequence p) order short standard.sequence p.sequence refl refl refl;
      answers = missing_refused (records_of Sequence p) order short standard.answers refl;
    }
    go Answers order short = record {
      machine = found_gives (records_of Answers p) order short standard.machine p.machine refl refl refl;
      word = found_gives (records_of Answers p) order short standard.word p.word refl refl refl;
      sequence = found_gives (records_of Answers p) order short standard.sequence p.sequence refl refl refl;
      answers = found_gives (records_of Answers p) order short standard.answers p.answers refl refl refl;
    }

-- parts without a cause are read back from the sheet that is written of them
pub written_reads : (v : Wanted) (p : Parts) → first_cause (part_causes v p) ≡ Clear → ReadsBack v p (sheet_of v p)
written_reads v p e = reads v p (clear_formed v p e)

-- so they are from the buffer, of which the first bytes, as many as the answer says, are that sheet
pub buffer_reads : (v : Wanted) (p : Parts) {before after : List ℕ} {n : ℕ} → WritesParts v p before after (Written n)
    → ReadsBack v p (take n after)
buffer_reads v p {before} h =
    let is = writes_first before h in
    subst (ReadsBack v p) (sym is.1) (written_reads v p is.0)

-- ---- loading
-- the roles that a service needs are wanted
pub record Within (n : Needs) (v : Wanted) : Type 0 where
  pub sequence : n.sequence ≡ true → (needs_of v).sequence ≡ true
  pub answers : n.answers ≡ true → (needs_of v).answers ≡ true

module _ (rs : List (ℕ × List ℕ)) where
  all_append : (xs ys : List (List ℕ)) → has_all xs rs ≡ true → has_all ys rs ≡ true → has_all (xs ++ ys) rs ≡ true
  all_append [] ys e f = f
  all_append (ks ∷ xs) ys e f =
      let h = both_true (has ks rs) (has_all xs rs) e in
      ap₂ ◌&&◌ h.0 (all_append xs ys h.1 f)

  all_when : (b : Bool) (ks : List ℕ) → (b ≡ true → has ks rs ≡ true) → has_all (when b (ks ∷ [])) rs ≡ true
  all_when true ks h = ap (λ (x : Bool). x && true) (h refl)
  all_when false ks h = refl

sequence_there : (v : Wanted) (p : Parts) → (needs_of v).sequence ≡ true
    → has standard.sequence (records_of v p) ≡ true
sequence_there Word p e = absurd (true≢false (sym e))
sequence_there Sequence p e = refl
sequence_there Answers p e = refl

-- answers are wanted beside a sequence only
pub answers_sequence : (v : Wanted) → (needs_of v).answers ≡ true → (needs_of v).sequence ≡ true
answers_sequence Word e = e
answers_sequence Sequence e = refl
answers_sequence Answers e = refl

answers_there : (v : Wanted) (p : Parts) → (needs_of v).answers ≡ true → has standard.answers (records_of v p) ≡ true
answers_there Word p e = absurd (true≢false (sym e))
answers_there Sequence p e = absurd (true≢false (sym e))
answers_there Answers p e = refl

all_there : (n : Needs) (v : Wanted) (p : Parts) → Within n v → has_all (needed standard n) (records_of v p) ≡ true
all_there n v p h =
    all_append (records_of v p) (when n.word (standard.word ∷ [])) _
    (all_when (records_of v p) n.word standard.word (λ e. refl))
    (all_append (records_of v p) (when n.sequence (standard.sequence ∷ [])) _
    (all_when (records_of v p) n.sequence standard.sequence (λ e. sequence_there v p (h.sequence e)))
    (all_when (records_of v p) n.answers standard.answers (λ e. answers_there v p (h.answers e))))

-- what is read of a role that is wanted
gives_when : {b : Bool} (t ks : List ℕ) (at : ℕ) (xs : List ℕ) → b ≡ true → GivesWhen b t ks at xs → Gives t ks at xs
gives_when t ks at xs e h = subst (λ (b : Bool). GivesWhen b t ks at xs) e h

module _ (v : Wanted) (p : Parts) (e : first_cause (part_causes v p) ≡ Clear) where
  -- its machine is that of the given payload
  pub written_machine : machine_in (sheet_of v p) ≡ machine_of standard p.machine
  unfolding machine_in
  written_machine = ap (machine_of standard) (written_reads v p e).machine.payload

  -- its sequence and its answers are the given ones, where they are wanted
  pub written_sequence : (needs_of v).sequence ≡ true → sequence_in (sheet_of v p) ≡ p.sequence
  written_sequence q =
      (gives_when (sheet_of v p) standard.sequence (sequence_start p) p.sequence q
      (written_reads v p e).sequence).payload

  pub written_answers : (needs_of v).answers ≡ true → answers_in (sheet_of v p) ≡ p.answers
  written_answers a =
      (gives_when (sheet_of v p) standard.answers (answers_start p) p.answers a (written_reads v p e).answers
      ).payload

  -- none of causes 1 to 7 and 12 is present for a service that needs roles that were written
  pub written_loads : (n : Needs) → Within n v → first_cause (load_causes n (sheet_of v p)) ≡ Clear
  unfolding sheet_of
  written_loads n within =
      let h = clear_formed v p e in
      let b = written_reads v p e in
      let t = sheet_of v p in
      let table : first_cause (table_causes standard (machine_record t).start (machine_payload t)) ≡ Clear =
      ap (λ (q : List ℕ). first_cause (table_causes standard (machine_record t).start q)) b.machine.payload
      ∙ table_anywhere standard 0 (machine_record t).start p.machine h.table in
      let kinds = causes_joined standard (records_of v p) (formed_order p v h) (formed_short p v h) (needed standard n)
      (all_there n v p within) in
      loading_clear n t (machine_causes_are n t ∙ ap₂ ◌else◌ kinds table ∙ else_clear Clear)
      (λ _. distinguishes_clear (machine_in t) (word_record t).start (word_in t)
      (rw (written_machine, b.word.payload) h.word))
      (λ q. sequence_clear (machine_in t) (sequence_record t).start (sequence_in t)
      (rw (written_machine, written_sequence (within.sequence q)) (h.sequence (within.sequence q))))

  -- nor is cause 10, where the answers were written
  pub written_few : (needs_of v).answers ≡ true →
      let t = sheet_of v p in cause10 (answers_record t).start (sequence_in t) (answers_in t) ≡ Clear
  written_few a =
      let t = sheet_of v p in
      let xs = written_sequence (answers_sequence v a) in
      let ys = written_answers a in
      few_clear (answers_record t).start (sequence_in t) (answers_in t) (rw (xs, ys) ((clear_formed v p e).answers a))
