-- Refusals of tokens, their texts, and the numbers of errors (RFC 4120, 7.5.9).
use Rattle.std.specs.Prelude.{ℕ, Bool, List, codes, true, false}
use Rattle.krb_accept_rules.specs.Refusals.{error_code, plain, rule_text}
use Rattle.krb_accept_rules.specs.declared.refusal.Rule.{Rule}
use Rattle.krb_accept_rules.specs.declared.refusal.Rule.TheVariants as Rules
use Rattle.krb_accept.specs.declared.token_refusal.TokenRefusal.{TokenRefusal}
use Rattle.krb_accept.specs.declared.token_refusal.TokenRefusal.TheVariants as refusal

abbrev pub token_error_code : TokenRefusal → ℕ
token_error_code refusal.Frame = 60
token_error_code (refusal.Request r) = error_code r.rule
token_error_code refusal.PacPlace = 60
token_error_code refusal.PacMissing = 60
token_error_code refusal.PacForm = 60
token_error_code refusal.PacChecksum = 41
token_error_code refusal.PacClient = 36
token_error_code refusal.ChecksumType = 50
token_error_code refusal.ChecksumLayout = 60
token_error_code refusal.Bindings = 41
token_error_code refusal.Delegation = 60

-- what it is called that a token is refused (RFC 4120, 3.2.3; RFC 4121, 4.1; MS-PAC)
abbrev pub token_text : TokenRefusal → List ℕ
token_text refusal.Frame = codes "not a token of Kerberos with an AP-REQ"
token_text (refusal.Request r) = rule_text r.rule
token_text refusal.PacPlace = codes "a PAC stands, or may stand, where nobody verifies it"
token_text refusal.PacMissing = codes "the ticket has no PAC"
token_text refusal.PacForm = codes "the PAC is malformed, or lacks a buffer that is checked"
token_text refusal.PacChecksum = codes "the PAC's server checksum does not hold"
token_text refusal.PacClient = codes "the PAC is of another client than the ticket, or of another time"
token_text refusal.ChecksumType = codes "the authenticator has no checksum of type 0x8003"
token_text refusal.ChecksumLayout = codes "the authenticator's checksum is malformed"
token_text refusal.Bindings = codes "the client's channel bindings are others than the service's"
token_text refusal.Delegation = codes "the delegated credentials cannot be decrypted or read"

-- an allocation failed
abbrev pub memory : TokenRefusal
memory = refusal.Request (plain Rules.OutOfMemory)

-- that it is refused means that an allocation failed
abbrev pub is_memory_rule : Rule → Bool
is_memory_rule Rules.OutOfMemory = true
is_memory_rule other = false

abbrev pub is_memory : TokenRefusal → Bool
is_memory (refusal.Request r) = is_memory_rule r.rule
is_memory other = false
