-- Following the commands of a marked place is sound: what it marks lies in the closure of the marks that it was given,
-- and the two places that it follows stay paired.
-- Assumes nothing.
use Prim.Native.Nat.{ℕ, ◌≤◌}
use mathlib.Core.Path.{◌≡◌, refl, sym, ap, ◌∙◌}
use mathlib.Core.List.{List}
use Rattle.std.specs.Prelude.{Option, Some, None}
use native.Mathlib.Omega.{arith}
use lib.ListN.{length, get_or}
use Rattle.machine.specs.Machine.{Mealy, state_at}
use Rattle.machine.specs.Machine.Laws.{state_next}
use Rattle.certify.specs.declared.propagation.Pair.{Pair}
use Rattle.certify.specs.Recognition.{rule1}
use Rattle.certify.specs.Folding.{From, Marking, Paired, tops, step}
use Rattle.certify.specs.Propagation.{Restarted, Equalised, Followed, PropagateRequires}
use Rattle.certify.proofs.Paired.{paired_sym, paired_trans, paired_state, paired_past}
use Rattle.certify.proofs.Growing.{marking_same}
use Rattle.certify.proofs.Marking.{marking_more, both_in}

-- the representative represents the place, whose state it is
pub record Represents (M : Mealy) (xs given : List ℕ) (pair : Pair) : Type 0 where
  pub paired : Paired M xs given pair.representative pair.place
  pub state : pair.state ≡ state_at M xs pair.place

-- following that goes on does so from such places
abbrev pub Continues : Mealy → List ℕ → List ℕ → Option Pair → Type 0
Continues M xs given at = (pair : Pair) → at ≡ Some pair → Represents M xs given pair

-- what the loop keeps
pub record Propagating (M : Mealy) (xs given ms : List ℕ) (at : Option Pair) : Type 0 where
  pub marking : Marking M xs given ms
  pub continues : Continues M xs given at

module _ {M : Mealy} {xs g : List ℕ} where
  -- following stops, and goes on
  stopped : {at : Option Pair} → at ≡ None → Continues M xs g at
  stopped e pair d = cc

  goes_on : {at : Option Pair} {pair : Pair} → Represents M xs g pair → at ≡ Some pair → Continues M xs g at
  goes_on {at} {pair} h e other d = let same : other ≡ pair = cc in rw same h

  module _ {alt root : List ℕ} {p s₀ : ℕ} (required : PropagateRequires M xs g alt root p s₀) where
    -- from a place in the closure
    restarts : {i s : ℕ} {at : Option Pair} → From M xs g i → s ≡ state_at M xs i → Restarted root i s at
        → Continues M xs g at
    restarts f e (Restarted.none z) = stopped z
    restarts {i} {s} f e (Restarted.from r h d) =
        let w = required.folds.roots s r h in goes_on (record { paired = tops w.1 f (w.2 ∙ e); state = e }) d

    -- before the first command
    pub propagation_starts : {at : Option Pair} → Restarted root p s₀ at → Propagating M xs g g at
    propagation_starts h = record {
      marking = marking_same required.long required.bits;
      continues = restarts (rule1 required.marked) required.state h;
    }

    -- two paired places get equal marks
    equalises : {ms ms' : List ℕ} {pair : Pair} {at : Option Pair} → pair.representative ≤ length xs
        → pair.place ≤ length xs → Marking M xs g ms → Represents M xs g pair → Equalised ms root pair ms' at
        → Propagating M xs g ms' at
    equalises rl il h t (Equalised.on e d) = record { marking = rw e h; continues = goes_on t d }
    equalises rl il h t (Equalised.stop e d) = record { marking = rw e h; continues = stopped d }
    equalises rl il h t (Equalised.first n e d) =
        let f = both_in h t.paired n in
        record {
          marking = rw e (marking_more rl f.0 h);
          continues = restarts f.0 (t.state ∙ sym (paired_state t.paired)) d;
        }
    equalises rl il h t (Equalised.second n e d) =
        let f = both_in h t.paired n in
        record { marking = rw e (marking_more il f.1 h); continues = restarts f.1 t.state d }

    -- one command further
    pub propagation_on : {ms ms' : List ℕ} {pair : Pair} {at at' : Option Pair} → Propagating M xs g ms at
        → at ≡ Some pair → Followed M xs ms alt root pair ms' at' → Propagating M xs g ms' at'
    propagation_on h d (Followed.ends e z) = record { marking = rw e h.marking; continues = stopped z }
    propagation_on {pair = pair} h d (Followed.steps v s' il vl path same e q) =
        let t = h.continues pair d in
        let further : Paired M xs g v pair.place =
        paired_trans (paired_sym (paired_past required.folds.links path)) t.paired in
        equalises (omega arith) (omega arith) h.marking
        (record {
          paired = step v pair.place further vl il same refl refl;
          state =
              e
              ∙ ap (λ (x : ℕ). M.next x (get_or xs pair.place 0)) t.state
              ∙ sym (state_next M xs pair.place il);
        })
        q
