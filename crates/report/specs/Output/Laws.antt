-- The laws of what is written.
use Rattle.std.specs.Prelude.{ℕ, ◌≤◌, ◌≡◌, refl, List}
use Rattle.std.proofs.Common.{sym, ap, subst, arith, length-append}
use Rattle.sheet.specs.Check.{Check, Clear, Refused}
use Rattle.sheet.specs.Promise.Laws.{writes_outcome, written_clear}
use Rattle.report.specs.declared.output.Written.{Written}
use Rattle.report.specs.Lines.{refusal_line}
use Rattle.report.specs.Output.{Output, on_error, output_unless, Writes}

-- where nothing is refused, and where something is
pub unless_clear : (o : Output) {c : Check} → c ≡ Clear → output_unless c o ≡ o
unless_clear o e = ap (λ (c : Check). output_unless c o) e

pub unless_refused : (o : Output) {c : Check} {number place : ℕ} → c ≡ Refused number place
    → output_unless c o ≡ on_error (refusal_line number place)
unless_refused o e = ap (λ (c : Check). output_unless c o) e

module _ {o : Output} {before after : List ℕ} {r : Written} (h : Writes o before after r) where
  -- the bytes for standard error stand behind those for standard output
  pub out_end : r.out ≤ r.end
  out_end = omega (
    arith,
    h.out,
    (written_clear (writes_outcome h.promise refl)).1,
    length-append o.out o.err,
  )

  pub writes_same : {p : Output} → p ≡ o → Writes p before after r
  writes_same {p} e = subst (λ (q : Output). Writes q before after r) (sym e) h
