-- What a mechanism means whose answers are told as values (RFC 4178, 3): it answers just these.
use Rattle.std.proofs.Common.{◌≡◌, ◌∙◌, ℕ, List, Bool, true, Option, Some, not, ap}
use Rattle.std.specs.Prelude.{◌||◌, None, Vec, nat_eq, []}
use Rattle.std.specs.Cmp.Lexicographic.{pointwise}
use Rattle.std.specs.List.{list_any}
use Rattle.std.specs.declared.alloc.Global.{Global}
use Rattle.krb_spnego_rules.specs.Decisions.{continues}
use Rattle.krb_spnego_rules.specs.Meaning.{IsSteady, Meaning}
use Rattle.krb_spnego_rules.specs.Turns.{progress_in}
use Rattle.krb_spnego_rules.specs.declared.mechanism.Turn.{Turn}
use Rattle.krb_spnego.specs.declared.told.Told.{Told}
use Rattle.krb_spnego.specs.declared.told.Verified.{Verified}

-- its own object identifier, or one of those that peers use in its place
unfoldable pub is_told_name : Told → List ℕ → Bool
is_told_name m arcs = pointwise nat_eq m.oid.items arcs || list_any (λ other. pointwise nat_eq other.items arcs) m.others.items

-- it takes the token, and its context stands as its turn says; what was told is used up
abbrev pub having_stepped : Told → Turn → Told
having_stepped m turn = record m { turn = None; established = not (continues (progress_in turn)) }

abbrev pub ToldSteps : Told → Option (List ℕ) → Told → Turn → Type 0
ToldSteps m token after turn = (m.turn ≡ Some turn) × (after ≡ having_stepped m turn)

-- the MIC is the one that the caller verified, and the text is the one of which it holds
abbrev pub IsOf : Verified → List ℕ → List ℕ → Type 0
IsOf v text mic = (v.text.items ≡ text) × (v.mic.items ≡ mic)

abbrev pub ToldHolds : Told → List ℕ → List ℕ → Type 0
ToldHolds m text mic = (v : Verified) × ((m.verified ≡ Some v) × IsOf v text mic)

-- its MIC is the one that is told; where none is, it says that one is wanting
abbrev pub ToldMakesBy : Option (Vec ℕ Global) → Told → List ℕ → Told → Type 0
ToldMakesBy (Some own) m mic after = (mic ≡ own.items) × (after ≡ record m { mic = None })
ToldMakesBy None m mic after = (mic ≡ []) × (after ≡ record m { mic = None; lacks_mic = true })

abbrev pub ToldMakes : Told → List ℕ → List ℕ → Told → Type 0
ToldMakes m text mic after = ToldMakesBy m.mic m mic after

abbrev pub told_meaning : Meaning Told
told_meaning = record {
  oid = λ m. m.oid.items;
  names = is_told_name;
  integrity = λ m. m.integrity;
  bare = λ m token. m.bare;
  established = λ m. m.established ≡ true;
  steps = ToldSteps;
  refuses = λ m token. m.turn ≡ None;
  holds = ToldHolds;
  makes = ToldMakes;
}

-- what a MIC changes not
oid_kept : (own : Option (Vec ℕ Global)) (a : Told) (mic : List ℕ) (b : Told) → ToldMakesBy own a mic b → b.oid ≡ a.oid
oid_kept (Some own) a mic b s = ap (λ m. m.oid) s.1
oid_kept None a mic b s = ap (λ m. m.oid) s.1

others_kept : (own : Option (Vec ℕ Global)) (a : Told) (mic : List ℕ) (b : Told) → ToldMakesBy own a mic b → b.others ≡ a.others
others_kept (Some own) a mic b s = ap (λ m. m.others) s.1
others_kept None a mic b s = ap (λ m. m.others) s.1

established_kept : (own : Option (Vec ℕ Global)) (a : Told) (mic : List ℕ) (b : Told) → ToldMakesBy own a mic b → b.established ≡ a.established
established_kept (Some own) a mic b s = ap (λ m. m.established) s.1
established_kept None a mic b s = ap (λ m. m.established) s.1

verified_kept : (own : Option (Vec ℕ Global)) (a : Told) (mic : List ℕ) (b : Told) → ToldMakesBy own a mic b → b.verified ≡ a.verified
verified_kept (Some own) a mic b s = ap (λ m. m.verified) s.1
verified_kept None a mic b s = ap (λ m. m.verified) s.1

names_by : (a b : Told) (arcs : List ℕ) → b.oid ≡ a.oid → b.others ≡ a.others → is_told_name b arcs ≡ is_told_name a arcs
unfolding is_told_name
names_by a b arcs oid others =
    ap (λ x. pointwise nat_eq x.items arcs || list_any (λ other. pointwise nat_eq other.items arcs) b.others.items) oid
    ∙ ap (λ x. pointwise nat_eq a.oid.items arcs || list_any (λ other. pointwise nat_eq other.items arcs) x.items) others

pub told_steady : IsSteady told_meaning
told_steady = record {
  oid_by_steps = λ a token b turn s. ap (λ m. m.oid.items) s.1;
  names_by_steps = λ a token b turn s arcs. names_by a b arcs (ap (λ m. m.oid) s.1) (ap (λ m. m.others) s.1);
  established_by_steps = λ a token b turn s e. ap (λ m. m.established) s.1 ∙ ap not e;
  oid_by_makes = λ a text mic b s. ap (λ x. x.items) (oid_kept a.mic a mic b s);
  names_by_makes = λ a text mic b s arcs. names_by a b arcs (oid_kept a.mic a mic b s) (others_kept a.mic a mic b s);
  established_by_makes = λ a text mic b s e. established_kept a.mic a mic b s ∙ e;
  holds_by_makes = λ a text mic b s other peer h. (h.0, (verified_kept a.mic a mic b s ∙ h.1.0, h.1.1));
}
