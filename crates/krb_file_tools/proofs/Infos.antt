-- Why nothing goes along with a ticket.
use Rattle.std.proofs.Common.{◌≡◌, ◌∙◌, inl, inr, ℕ, List, Ok, Err, refl, sym, ap, subst}
use Rattle.krb_files.specs.Ccache.{Credential, TypedPrincipal}
use Rattle.krb_files.specs.declared.ccache.credential.Times.{Times}
use Rattle.krb_types.specs.declared.data_types.names.PrincipalName.{PrincipalName}
use Rattle.krb_file_tools.specs.Answers.{IsMemoryOr}
use Rattle.krb_file_tools.specs.Message.{HasNoTimes, InfoError, name_from, names_from, no_name, no_time}
use Rattle.krb_file_tools.specs.declared.convert.error.ConvertError.{ConvertError}
use Rattle.krb_file_tools.specs.declared.convert.error.ConvertError.TheVariants as errors

pub both_named : (c : Credential) (p q : TypedPrincipal) (r s : List ℕ × PrincipalName) → p ≡ c.client → q ≡ c.server → name_from p ≡ Ok r → name_from q ≡ Ok s → names_from c ≡ Ok (r, s)
both_named c p q r s pc qc h k =
    let a : name_from c.client ≡ Ok r = ap name_from (sym pc) ∙ h in
    let b : name_from c.server ≡ Ok s = ap name_from (sym qc) ∙ k in
    rw (a, b) refl

pub client_broken : (c : Credential) (p : TypedPrincipal) (e : ConvertError) → p ≡ c.client → IsMemoryOr e (name_from p ≡ Err e) → IsMemoryOr e (names_from c ≡ Err e)
client_broken c p e pc (inl m) = inl m
client_broken c p e pc (inr h) =
    let a : name_from c.client ≡ Err e = ap name_from (sym pc) ∙ h in
    inr (rw a refl)

pub server_broken : (c : Credential) (p q : TypedPrincipal) (r : List ℕ × PrincipalName) (e : ConvertError) → p ≡ c.client → q ≡ c.server → name_from p ≡ Ok r
    → IsMemoryOr e (name_from q ≡ Err e) → IsMemoryOr e (names_from c ≡ Err e)
server_broken c p q r e pc qc h (inl m) = inl m
server_broken c p q r e pc qc h (inr k) =
    let a : name_from c.client ≡ Ok r = ap name_from (sym pc) ∙ h in
    let b : name_from c.server ≡ Err e = ap name_from (sym qc) ∙ k in
    inr (rw (a, b) refl)

pub names_broken : (c : Credential) (e : ConvertError) → IsMemoryOr e (names_from c ≡ Err e) → IsMemoryOr e (InfoError c e)
names_broken c e (inl m) = inl m
names_broken c e (inr h) = inr (no_name e h)

pub times_broken : (c : Credential) (names : (List ℕ × PrincipalName) × (List ℕ × PrincipalName)) (times : Times) (e : ConvertError) → times ≡ c.times → names_from c ≡ Ok names
    → (e ≡ errors.Time) × HasNoTimes times → IsMemoryOr e (InfoError c e)
times_broken c names times e tc named why =
    inr (subst (InfoError c) (sym why.0) (no_time names named (subst HasNoTimes tc why.1)))
