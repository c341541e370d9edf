-- What a message says as a value, of its type of DER (RFC 4178, 4.2).
use Rattle.std.specs.Prelude.{◌≡◌, ℕ, List, [], ◌∷◌, Option, Some, None, Vec, map}
use Rattle.std.specs.declared.alloc.Global.{Global}
use Rattle.krb_gss_tokens.specs.declared.spnego.GssApiNegInit.{GssApiNegInit}
use Rattle.krb_gss_tokens.specs.declared.spnego.NegTokenInit.{NegTokenInit}
use Rattle.krb_gss_tokens.specs.declared.spnego.NegTokenTarg.{NegTokenTarg}
use Rattle.krb_spnego_rules.specs.Fields.{items_in}
use Rattle.krb_spnego_rules.specs.declared.message.Message.{Message}
use Rattle.krb_spnego_rules.specs.declared.message.Proposal.{Proposal}
use Rattle.krb_spnego.specs.States.{Tells}

-- the arcs of SPNEGO, 1.3.6.1.5.5.2 (RFC 4178, 3.1)
abbrev pub spnego_arcs : List ℕ
spnego_arcs = 1 ∷ 3 ∷ 6 ∷ 1 ∷ 5 ∷ 5 ∷ 2 ∷ []

-- a NegTokenResp says just this (4.2.2)
pub record IsMessage (value : NegTokenTarg) (message : Message) : Type 0 where
  pub state : Tells value.neg_result.0 message.state
  pub mechanism : items_in message.mechanism ≡ value.supported_mech.0
  pub token : items_in message.token ≡ value.response_token.0
  pub mic : items_in message.mic ≡ value.mech_list_mic.0

-- mechTypes, with the encoding of the list as it was sent; a list that is absent is as one that is empty, and has no encoding
abbrev pub Lists : (List (List ℕ) → List ℕ) → Option (List (List ℕ)) → List (Vec ℕ Global) → List ℕ → Type 0
Lists enc None mechanisms list = (mechanisms ≡ []) × (list ≡ [])
Lists enc (Some types) mechanisms list = (map (λ m. m.items) mechanisms ≡ types) × (list ≡ enc types)

-- a NegTokenInit says just this, where `enc` encodes a list of mechanisms (4.2.1); reqFlags, which nothing protects, are not looked at
pub record IsProposal (enc : List (List ℕ) → List ℕ) (value : NegTokenInit) (proposal : Proposal) : Type 0 where
  pub listed : Lists enc value.mech_types.0 proposal.mechanisms.items proposal.list.items
  pub token : items_in proposal.token ≡ value.mech_token.0
  pub mic : items_in proposal.mic ≡ value.mech_list_mic.0

-- an offer of these mechanisms with this first token, in the frame of SPNEGO (RFC 2743, 3.1)
pub record IsOffer (types : List (List ℕ)) (token : Option (List ℕ)) (value : GssApiNegInit) : Type 0 where
  pub frame : value.oid ≡ spnego_arcs
  pub listed : value.neg_token_init.mech_types.0 ≡ Some types
  pub flags : value.neg_token_init.req_flags.0 ≡ None
  pub first : value.neg_token_init.mech_token.0 ≡ token
  pub mic : value.neg_token_init.mech_list_mic.0 ≡ None
