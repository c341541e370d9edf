-- Places of fields that end an input.
use Rattle.std.proofs.Common.{◌≡◌, ℕ, ◌+◌, List, [], ◌++◌, length, take, drop, refl, sym, ap, ◌∙◌, append_assoc, arith}
use Rattle.std.proofs.lemmas.List.{length-append, drop_at, take_at}
use Rattle.krb_der_core.specs.Tlv.{header, tlv}
use Rattle.krb_c_calls.specs.Places.{StandsBefore}

-- the octets end with these
pub record Ends (tail input : List ℕ) : Type 0 where
  pub before : List ℕ
  pub parts : input ≡ before ++ tail

pub ends_here : (tail : List ℕ) → Ends tail tail
ends_here tail = record { before = []; parts = refl }

pub ends_after : (a tail input : List ℕ) → Ends tail input → Ends tail (a ++ input)
ends_after a tail input e = record { before = a ++ e.before; parts = ap (λ (l : List ℕ). a ++ l) e.parts ∙ sym (append_assoc a e.before tail) }

pub ends_same : (tail a b : List ℕ) → a ≡ b → Ends tail b → Ends tail a
ends_same tail a b same e = record { before = e.before; parts = same ∙ e.parts }

pub ends_same_tail : (a b input : List ℕ) → a ≡ b → Ends a input → Ends b input
ends_same_tail a b input same e = record { before = e.before; parts = e.parts ∙ ap (λ (l : List ℕ). e.before ++ l) same }

pub tlv_split : (t : ℕ) (c : List ℕ) → tlv t c ≡ header t (length c) ++ c
unfolding tlv
tlv_split t c = refl

pub ends_tlv : (t : ℕ) (tail content : List ℕ) → Ends tail content → Ends tail (tlv t content)
ends_tlv t tail content e = ends_same tail (tlv t content) (header t (length content) ++ content) (tlv_split t content) (ends_after (header t (length content)) tail content e)

-- what ends an input is no longer than it
pub ends_size : (tail input : List ℕ) (e : Ends tail input) → length e.before + length tail ≡ length input
ends_size tail input e = sym (ap length e.parts ∙ length-append e.before tail)

-- the place of a field before octets that end the input
pub stands : (field behind input : List ℕ) (offset size : ℕ) → Ends (field ++ behind) input → offset + length field + length behind ≡ length input → size ≡ length field
    → StandsBefore field behind input offset size
stands field behind input offset size e at count =
    let all = ends_size (field ++ behind) input e in
    let both = length-append field behind in
    let start : offset ≡ length e.before = omega (arith, at, all, both) in
    record {
      before = e.before;
      parts = e.parts;
      start = start;
      count = count;
      octets = sym (ap (λ (l : List ℕ). take size (drop offset l)) e.parts ∙ ap (take size) (drop_at e.before (field ++ behind) offset (sym start)) ∙ take_at field behind size (sym count));
    }
