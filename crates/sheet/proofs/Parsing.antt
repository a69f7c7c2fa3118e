-- The invariant of the pass over a sheet: how it starts, goes on and ends.
use Prim.Native.Nat.{ℕ, ◌+◌, ◌≤◌, ◌<◌}
use mathlib.Core.Path.{◌≡◌, sym, ap, subst₂, ◌∙◌}
use mathlib.Core.List.{List}
use native.Mathlib.Omega.{arith}
use lib.ListN.{length}
use Rattle.std.specs.Prelude.{Ok, Err}
use Rattle.sheet.specs.declared.check.Refusal.{Refusal}
use Rattle.sheet.specs.Check.{Check, Clear}
use Rattle.sheet.specs.declared.record.Record.{Record}
use Rattle.sheet.specs.declared.record.Records.{Records}
use Rattle.sheet.specs.Format.{standard, header, record_at, rank_in, end, cause_of, Parsed, longest}
use Rattle.sheet.specs.Format.{parse, parsed, no_records, one_record, ◌or_each◌, records_among}
use Rattle.sheet.specs.Format.Laws.{end_is, clear_inside, parsed_is, parse_end, parse_stopped, parse_record}
use Rattle.sheet.specs.Format.Laws.{each_none, none_each, each_assoc, among_none, among_cons}
use Rattle.sheet.specs.Reader.{whole_cause, whole_reading}
use Rattle.sheet.specs.Reader.Laws.{whole_short, records_clear}

-- before a turn: the parsing from here on stops as the whole one does, and the records of each role are those that are
-- found, or else the ones from here on
pub record Head (s : List ℕ) (at last : ℕ) (found : Records) : Type 0 where
  pub inside : at ≤ length s
  pub stop : (parse standard s at last).stop ≡ (parsed standard s).stop
  pub finds : (found or_each records_among standard (parse standard s at last).records)
      ≡ records_among standard (parsed standard s).records

pub head_start : (s : List ℕ) {found : Records} → found ≡ no_records → Head s 0 0 found
head_start s e = record {
  inside = omega arith;
  stop = ap (λ (w : Parsed). w.stop) (sym (parsed_is standard s));
  finds = ap (λ (f : Records). f or_each records_among standard (parse standard s 0 0).records) e
      ∙ none_each _
      ∙ ap (λ (w : Parsed). records_among standard w.records) (sym (parsed_is standard s));
}

module _ {s : List ℕ} {at last : ℕ} {found : Records} (h : Head s at last found) (short : length s ≤ longest) where
  -- what stops the parsing here is the cause of the whole sheet
  whole : {w : Parsed} → parse standard s at last ≡ w → w.stop ≡ whole_cause standard s
  whole e = ap (λ (x : Parsed). x.stop) (sym e) ∙ h.stop ∙ sym (whole_short standard s short)

  pub head_end : length s ≤ at → Ok found ≡ whole_reading standard s
  head_end l =
      let e = parse_end standard s at last l in
      let clear = sym (whole e) in
      let all =
      sym (each_none found)
      ∙ ap (λ (f : Records). found or_each f)
      (sym (among_none standard) ∙ ap (λ (x : Parsed). records_among standard x.records) (sym e))
      ∙ h.finds
      ∙ sym (records_clear standard s clear) in
      rw (clear, all)

  pub head_stop : at < length s → {r : Record} → r ≡ record_at s at → {c : Check}
      → c ≡ cause_of standard (length s) r last → {x : Refusal} → c ≡ Err x → Err x ≡ whole_reading standard s
  head_stop l re ce {x} e =
      let here = ap (λ (x : Record). cause_of standard (length s) x last) (sym re) ∙ sym ce ∙ e in
      rw (sym (whole (parse_stopped standard s at last x.number x.place l here)))

-- the values that a turn of the code computes
pub record Turn (s : List ℕ) (at last : ℕ) (found : Records) (r : Record) (c : Check) (f : Records)
    (rk : ℕ) : Type 0 where
  pub more : at < length s
  pub reads : r ≡ record_at s at
  pub checks : c ≡ cause_of standard (length s) r last
  pub clear : c ≡ Clear
  pub takes : f ≡ (found or_each one_record standard r)
  pub ranks : rk ≡ rank_in standard r

module _ {s : List ℕ} {at last : ℕ} {found : Records} {r : Record} {c : Check} {f : Records} {rk : ℕ}
    (h : Head s at last found) (t : Turn s at last found r c f rk) where
  here : cause_of standard (length s) (record_at s at) last ≡ Clear
  here = ap (λ (x : Record). cause_of standard (length s) x last) (sym t.reads) ∙ sym t.checks ∙ t.clear

  ends : end (record_at s at) ≡ at + (header + r.size)
  ends = omega (arith, end_is s at r t.reads)

  ranked : rank_in standard (record_at s at) ≡ rk
  ranked = ap (rank_in standard) (sym t.reads) ∙ sym t.ranks

  pub turn_next : Head s (at + (header + r.size)) rk f
  turn_next =
      let x = record_at s at in
      let w = parse standard s (end x) (rank_in standard x) in
      let on = parse_record standard s at last t.more here in
      subst₂ (λ (a b : ℕ). Head s a b f) ends ranked
      (record {
        inside = clear_inside standard s at last here;
        stop = ap (λ (v : Parsed). v.stop) (sym on) ∙ h.stop;
        finds = ap (λ (g : Records). g or_each records_among standard w.records)
            (t.takes ∙ ap (λ (y : Record). found or_each one_record standard y) t.reads)
            ∙ each_assoc found (one_record standard x) (records_among standard w.records)
            ∙ ap (λ (g : Records). found or_each g)
            (sym (among_cons standard x w.records)
            ∙ ap (λ (v : Parsed). records_among standard v.records) (sym on))
            ∙ h.finds;
      })
