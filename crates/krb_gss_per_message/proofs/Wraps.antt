-- One token holds one message, and is not refused.
use Rattle.std.proofs.Common.{◌≡◌, ℕ, Bool, true, false, List, ◌++◌, None, Err, refl, sym, ap, subst, ◌∙◌}
use Rattle.krb_gss_tokens.proofs.Wrap.{one_wrap}
use Rattle.krb_gss_tokens.specs.Layout.{wrap_header}
use Rattle.krb_gss_tokens.specs.PerMessageRejected.{Answers}
use Rattle.krb_gss_tokens.specs.Wrap.{FitsWrap, Wrap, WrapIs, wrap}
use Rattle.krb_gss_tokens.specs.declared.error.GssApiMessageError.{GssApiMessageError}
use Rattle.krb_gss_tokens.specs.declared.error.GssApiMessageError.TheVariants as gss
use Rattle.krb_gss_per_message.specs.Keys.{Key, AreFlagsOf}
use Rattle.krb_gss_per_message.specs.Flags.{RefusesFlags}
use Rattle.krb_gss_per_message.specs.Rotation.{rotated_right}
use Rattle.krb_gss_per_message.specs.Unwrap.{IsWrapToken, IsUnwrapped, Holds, RefusesUnwrap}
use Rattle.krb_gss_per_message.specs.UnwrapSteps.{RefusesData}
use Rattle.krb_gss_per_message.specs.declared.error.ProtectionError.{ProtectionError}
use Rattle.krb_gss_per_message.specs.declared.error.ProtectionError.TheVariants as errors
use Rattle.krb_gss_per_message.proofs.FlagBits.{sender_once}
use Rattle.krb_gss_per_message.proofs.Rotations.{rotated_once}

-- the token as one of the layer below
as_wrap : ℕ → ℕ → ℕ → ℕ → List ℕ → Wrap
as_wrap f x y n octets = record { flags = f; ec = x; rrc = y; seq_num = n; payload = None; checksum = rotated_right y octets }

pub record AreSame (f x y n : ℕ) (octets : List ℕ) (g u v m : ℕ) (others : List ℕ) : Type 0 where
  pub flags : f ≡ g
  pub extra : x ≡ u
  pub number : n ≡ m
  pub octets_are : octets ≡ others

pub same_fields : (token : List ℕ) (f x y n : ℕ) (octets : List ℕ) (g u v m : ℕ) (others : List ℕ)
    → IsWrapToken token f x y n octets → IsWrapToken token g u v m others → AreSame f x y n octets g u v m others
unfolding as_wrap
same_fields token f x y n octets g u v m others a b =
    let one : as_wrap f x y n octets ≡ as_wrap g u v m others =
    one_wrap token (as_wrap f x y n octets) (as_wrap g u v m others) (a.extra_fits, a.rotation_fits, a.number_fits) (b.extra_fits, b.rotation_fits, b.number_fits)
    (a.concatenated, refl) (b.concatenated, refl) in
    let count : y ≡ v = ap (λ (t : Wrap). t.rrc) one in
    let rotated : rotated_right y octets ≡ rotated_right v others = ap (λ (t : Wrap). t.checksum) one in
    record {
      flags = ap (λ (t : Wrap). t.flags) one;
      extra = ap (λ (t : Wrap). t.ec) one;
      number = ap (λ (t : Wrap). t.seq_num) one;
      octets_are = rotated_once y octets others (rotated ∙ ap (λ (k : ℕ). rotated_right k others) (sym count));
    }

-- what a token holds, by the fields that were read
pub record IsHeld (key : Key) (sealed : Bool) (f x n : ℕ) (octets : List ℕ) (number : ℕ) (message : List ℕ) : Type 0 where
  pub number_is : n ≡ number
  pub flags_are : AreFlagsOf key sealed f
  pub holds : Holds sealed key f x n octets message

pub held_by : (key : Key) (token : List ℕ) (f x y n : ℕ) (octets : List ℕ) (sealed : Bool) (number : ℕ) (message : List ℕ)
    → IsWrapToken token f x y n octets → IsUnwrapped key token sealed number message → IsHeld key sealed f x n octets number message
held_by key token f x y n octets sealed number message is held =
    let same = same_fields token f x y n octets held.0 held.1 held.2 number held.3 is held.4 in
    let holds : Holds sealed key f held.1 number held.3 message = subst (λ (k : ℕ). Holds sealed key k held.1 number held.3 message) (sym same.flags) held.6 in
    let holds : Holds sealed key f x number held.3 message = subst (λ (k : ℕ). Holds sealed key f k number held.3 message) (sym same.extra) holds in
    let holds : Holds sealed key f x n held.3 message = subst (λ (k : ℕ). Holds sealed key f x k held.3 message) (sym same.number) holds in
    record {
      number_is = same.number;
      flags_are = subst (AreFlagsOf key sealed) (sym same.flags) held.5;
      holds = subst (λ (k : List ℕ). Holds sealed key f x n k message) (sym same.octets_are) holds;
    }

-- why the data holds nothing is why the token does
pub data_refused : (key : Key) (token : List ℕ) (f x y n : ℕ) (octets : List ℕ) (sealed : Bool) (e : ProtectionError)
    → IsWrapToken token f x y n octets → AreFlagsOf key sealed f → RefusesData sealed key f x n octets e → RefusesUnwrap key token e
data_refused key token f x y n octets sealed errors.OutOfMemory is are refuses = tt
data_refused key token f x y n octets true (errors.Opening e) is are refuses = (f, x, y, n, octets, is, are, refuses.0, refuses.1)
data_refused key token f x y n octets true errors.SealedHeader is are refuses = (f, x, y, n, octets, is, are, refuses.0, refuses.1)
data_refused key token f x y n octets true errors.Checksum is are refuses = absurd refuses
data_refused key token f x y n octets true (errors.Token e) is are refuses = absurd refuses
data_refused key token f x y n octets true errors.Direction is are refuses = absurd refuses
data_refused key token f x y n octets true errors.Subkey is are refuses = absurd refuses
data_refused key token f x y n octets true errors.Sealed is are refuses = absurd refuses
data_refused key token f x y n octets false errors.Checksum is are refuses = (f, x, y, n, octets, is, are, refuses)
data_refused key token f x y n octets false (errors.Opening e) is are refuses = absurd refuses
data_refused key token f x y n octets false errors.SealedHeader is are refuses = absurd refuses
data_refused key token f x y n octets false (errors.Token e) is are refuses = absurd refuses
data_refused key token f x y n octets false errors.Direction is are refuses = absurd refuses
data_refused key token f x y n octets false errors.Subkey is are refuses = absurd refuses
data_refused key token f x y n octets false errors.Sealed is are refuses = absurd refuses

-- why the flags are refused is why the token is
pub flags_refused : (key : Key) (token : List ℕ) (f x y n : ℕ) (octets : List ℕ) (e : ProtectionError) → IsWrapToken token f x y n octets → RefusesFlags key f e → RefusesUnwrap key token e
flags_refused key token f x y n octets errors.Direction is refuses = (f, x, y, n, octets, is, refuses)
flags_refused key token f x y n octets errors.Subkey is refuses = (f, x, y, n, octets, is, refuses.0, refuses.1)
flags_refused key token f x y n octets errors.OutOfMemory is refuses = absurd refuses
flags_refused key token f x y n octets (errors.Token e) is refuses = absurd refuses
flags_refused key token f x y n octets errors.Sealed is refuses = absurd refuses
flags_refused key token f x y n octets errors.Checksum is refuses = absurd refuses
flags_refused key token f x y n octets (errors.Opening e) is refuses = absurd refuses
flags_refused key token f x y n octets errors.SealedHeader is refuses = absurd refuses

-- a token that holds a message is no other than one of the layer below, whose reader answers it
pub wrap_read : (key : Key) (token : List ℕ) (sealed : Bool) (number : ℕ) (message : List ℕ) (e : GssApiMessageError)
    → ((t : Wrap) → FitsWrap t → WrapIs token t → Answers {A = Wrap} (Err e) t) → IsUnwrapped key token sealed number message → e ≡ gss.OutOfMemory
unfolding as_wrap
wrap_read key token sealed number message e only held =
    only (as_wrap held.0 held.1 held.2 number held.3) (held.4.extra_fits, held.4.rotation_fits, held.4.number_fits) (held.4.concatenated, refl)

-- the token that was read
pub token_read : (token : List ℕ) (s t : Wrap) (octets : List ℕ) → WrapIs token t → FitsWrap t → s ≡ t → s.checksum ≡ rotated_right s.rrc octets
    → IsWrapToken token s.flags s.ec s.rrc s.seq_num octets
token_read token s t octets is fits same rotated =
    let of_s : FitsWrap s = subst FitsWrap (sym same) fits in
    record {
      extra_fits = of_s.0;
      rotation_fits = of_s.1;
      number_fits = of_s.2;
      concatenated = is.0 ∙ ap wrap (sym same) ∙ ap (λ (xs : List ℕ). wrap_header s.flags s.ec s.rrc s.seq_num ++ xs) rotated;
    }

-- a token has one sender
pub wrap_sender : (key other : Key) (a b : Bool) (message other_message token : List ℕ) (m n : ℕ) → IsUnwrapped key token a m message → IsUnwrapped other token b n other_message
    → key.sender ≡ other.sender
wrap_sender key other a b message other_message token m n is also =
    let same = same_fields token is.0 is.1 is.2 m is.3 also.0 also.1 also.2 n also.3 is.4 also.4 in
    sender_once key other a b also.0 (subst (AreFlagsOf key a) same.flags is.5) also.5
