-- The laws of cause 8: it is clear exactly where the table is strongly connected, and then every T(s) is there; and of
-- the causes of loading and 8 together. The laws of the service stand in Building.Service.
use Rattle.std.specs.Prelude.{ℕ, ◌<◌, ◌≡◌, refl, true, false, List, [], ◌∷◌, ◌++◌, length}
use Rattle.std.proofs.Common.{sym, ap, ◌∙◌, arith, length-append}
use Rattle.std.proofs.Math.Option.{Option, none, some, get_or}
use Rattle.facts.specs.Lists.{low_append}
use Rattle.sheet.specs.Check.{refusal◌with◌if◌, ◌else◌, first_cause, first, Check, Clear, Refused}
use Rattle.sheet.specs.Check.Laws.{both_clear, else_clear, else_refused, cause_one, cause_append, absent, present}
use Rattle.sheet.specs.Check.Laws.{clear_absent, first_clear, first_clear_at, first_found, first_present}
use Rattle.sheet.specs.Check.Laws.{present_test}
use Rattle.sheet.specs.Reader.{word_in}
use Rattle.machine.specs.Limits.{most_word}
use Rattle.machine.specs.Machine.{Mealy, run, Proper, Commands, Distinguishes}
use Rattle.machine.specs.Machine.Laws.{run_append, run_stays}
use Rattle.machine.specs.Causes.{machine_in, load_causes}
use Rattle.machine.specs.Causes.Lists.{load_proper, word_distinguishes}
use Rattle.build.specs.Transfer.{Leads, IsTransfer}
use Rattle.build.specs.Transfer.Laws.{transfer_is, transfer_below, leads_some, none_leads, leads_none}
use Rattle.build.specs.Sequence.{following, B, T, approach}
use Rattle.build.specs.Sequence.Cycle.{following_below}
use Rattle.build.specs.Sequence.Laws.{Blocks, T_is, approach_reaches}
use Rattle.build.specs.Sequence.Length.{approach_low}
use Rattle.build.specs.Building.{build_needs, no_transfer, cause8, connected_causes, StronglyConnected}

-- cause 8 at a state
abbrev pub transfer_cause : Mealy → List ℕ → ℕ → Check
transfer_cause M w s = refusal 8 with s if no_transfer (B M w s)

pub cause8_is : (M : Mealy) (w : List ℕ) → first M.n (transfer_cause M w) ≡ cause8 M w
unfolding cause8
cause8_is M w = refl

-- there is a transfer, or there is none
there : (o : Option (List ℕ)) → no_transfer o ≡ false → (t : List ℕ) × (o ≡ some t)
there none e = ([], cc)
there (some t) e = (t, refl)

not_there : (o : Option (List ℕ)) → no_transfer o ≡ true → o ≡ none
not_there none e = refl
not_there (some t) e = cc

-- cause 8 as §4.2 has it, over strings of any length
pub record NotConnected (M : Mealy) (w : List ℕ) (s : ℕ) : Type 0 where
  pub state : s < M.n
  pub none_leads_on : (u : List ℕ) → Leads M (run M s w) (following M.n s) u → ⊥
  pub least : (t : ℕ) → t < s → (u : List ℕ) × Leads M (run M t w) (following M.n t) u

module _ (M : Mealy) (w : List ℕ) (proper : Proper M) (commands : Commands most_word M.k w) where
  -- where the word takes a state is a state
  pub word_stays : (s : ℕ) → s < M.n → run M s w < M.n
  word_stays s sl = run_stays M proper s w sl commands.low

  -- ---- where cause 8 is clear
  module _ (clear : cause8 M w ≡ Clear) where
    pub clear_transfer : (s : ℕ) → s < M.n → (t : List ℕ) × (B M w s ≡ some t)
    clear_transfer s sl =
        there (B M w s) (clear_absent 8 s _ (first_clear_at M.n s (transfer_cause M w) (cause8_is M w ∙ clear) sl))

    is_shortest : (s : ℕ) (sl : s < M.n) → IsTransfer M (run M s w) (following M.n s) (clear_transfer s sl).0
    is_shortest s sl = transfer_is M proper (run M s w) (following M.n s) (clear_transfer s sl).1

    T_splits : (s : ℕ) (sl : s < M.n) → T M w s ≡ w ++ (clear_transfer s sl).0
    T_splits s sl = T_is M w s ∙ ap (λ (o : Option (List ℕ)). w ++ get_or o []) (clear_transfer s sl).1

    -- what T(s) has then
    pub clear_blocks : Blocks M w
    clear_blocks = record {
      proper = proper;
      some = commands.some;
      leads = λ s sl.
          ap (run M s) (T_splits s sl) ∙ run_append M s w (clear_transfer s sl).0 ∙ (is_shortest s sl).is.has.ends;
      begins = λ s sl. ((clear_transfer s sl).0, T_splits s sl);
      low = λ s sl.
          rw (T_splits s sl)
          (low_append M.k w (clear_transfer s sl).0 commands.low (is_shortest s sl).is.has.commands);
      short = λ s sl.
          omega (
            arith,
            ap length (T_splits s sl),
            length-append w (clear_transfer s sl).0,
            transfer_below M (run M s w) (following M.n s) (clear_transfer s sl).1,
          );
    }

    -- from a to b by way of the states between them, counted round
    pub clear_connected : StronglyConnected M
    clear_connected a b al bl = (
      approach M w M.n a b,
      record {
        commands = approach_low M w clear_blocks M.n a b al bl;
        ends = approach_reaches M w clear_blocks a b al bl;
      },
    )

  -- ---- where the table is strongly connected
  pub connected_clear : StronglyConnected M → cause8 M w ≡ Clear
  connected_clear h =
      sym (cause8_is M w)
      ∙ first_clear M.n (transfer_cause M w)
      (λ s sl.
      let p = h (run M s w) (following M.n s) (word_stays s sl) (following_below M.n s sl) in
      absent 8 s
      (ap no_transfer (leads_some M proper (run M s w) (following M.n s) (word_stays s sl) p.0 p.1).1))

  -- ---- the place of the refusal
  pub refused_unconnected : {a s : ℕ} → cause8 M w ≡ Refused a s → (a ≡ 8) × NotConnected M w s
  refused_unconnected {a} {s} e =
      let p = first_present M.n (transfer_cause M w) (cause8_is M w ∙ e) in
      let t = present_test 8 p.place (no_transfer (B M w p.place)) p.here in
      let found : NotConnected M w p.place = record {
        state = p.inside;
        none_leads_on =
            none_leads M proper (run M p.place w) (following M.n p.place) (word_stays p.place p.inside)
            (not_there _ t.0);
        least = λ q l.
            let ql : q < M.n = omega (arith, p.inside) in
            let o =
            there (B M w q) (clear_absent 8 q _ (first_clear_at p.place q (transfer_cause M w) p.before l)) in
            (o.0, (transfer_is M proper (run M q w) (following M.n q) o.1).is.has);
      } in
      (t.1.0, rw t.1.1 found)

  pub unconnected_refused : (s : ℕ) → NotConnected M w s → cause8 M w ≡ Refused 8 s
  unconnected_refused s h =
      sym (cause8_is M w)
      ∙ first_found M.n s (transfer_cause M w) h.state
      (first_clear s (transfer_cause M w)
      (λ t l.
      let u = h.least t l in
      let tl : t < M.n = omega (arith, h.state) in
      absent 8 t
      (ap no_transfer (leads_some M proper (run M t w) (following M.n t) (word_stays t tl) u.0 u.1).1)))
      (present 8 s (ap no_transfer (leads_none M (run M s w) (following M.n s) h.none_leads_on)))

-- ---- the causes of loading and 8 of a sheet
pub connected_causes_are : (s : List ℕ)
    → first_cause (connected_causes s) ≡ (first_cause (load_causes build_needs s) else cause8 (machine_in s) (word_in s))
unfolding connected_causes
connected_causes_are s =
    let eight = cause8 (machine_in s) (word_in s) in
    cause_append (load_causes build_needs s) (eight ∷ [])
    ∙ ap (λ (c : Check). first_cause (load_causes build_needs s) else c) (cause_one eight)

-- one of the causes of loading is the first
pub load_refused : (s : List ℕ) {a b : ℕ} → first_cause (load_causes build_needs s) ≡ Refused a b
    → first_cause (connected_causes s) ≡ Refused a b
load_refused s {a} {b} e = connected_causes_are s ∙ (rw e (else_refused a b _))

-- where they are clear, all of these are
module _ (s : List ℕ) (clear : first_cause (connected_causes s) ≡ Clear) where
  pub clear_load : first_cause (load_causes build_needs s) ≡ Clear
  clear_load = (both_clear _ _ (sym (connected_causes_are s) ∙ clear)).0

  pub clear_eight : cause8 (machine_in s) (word_in s) ≡ Clear
  clear_eight = (both_clear _ _ (sym (connected_causes_are s) ∙ clear)).1

  -- so the machine is within its limits, the word within its own and separates, and the table is strongly connected
  pub clear_proper : Proper (machine_in s)
  clear_proper = load_proper build_needs s clear_load

  pub clear_distinguishes : Distinguishes (machine_in s) (word_in s)
  clear_distinguishes = word_distinguishes build_needs s refl clear_load

  pub clear_strongly : StronglyConnected (machine_in s)
  clear_strongly = clear_connected (machine_in s) (word_in s) clear_proper clear_distinguishes.commands clear_eight

-- and they are clear where those of loading and 8 are
pub all_clear : (s : List ℕ) → first_cause (load_causes build_needs s) ≡ Clear → cause8 (machine_in s) (word_in s) ≡ Clear
    → first_cause (connected_causes s) ≡ Clear
all_clear s load eight = connected_causes_are s ∙ (rw (load, eight) (else_clear Clear))
