use Rattle.std.proofs.Common.{◌∙◌, ap, inl, inr, refl}
use Rattle.krb_der_core.specs.declared.error.Asn1DerError.TheVariants as errors
use Rattle.krb_show_tokens.proofs.OneKind.{first_told, id_refused, id_told, kind_told, kind_unknown, memory_told, negotiation_told, none_told}
use Rattle.krb_show_tokens.specs.Kinds.{kind_of}
use Rattle.krb_show_tokens.specs.declared.tokens.TokenKind.TheVariants as kind
use Rattle.krb_show_tokens.proofs.tokens.page_of_token.Goals as goal

pub returns-clause-empty : goal.returns-clause-empty
returns-clause-empty c h = kind_told _ _ _ _ kind.Empty c.page_of_kind.ensures (c.kind_of.ensures ∙ ap kind_of h)

pub returns-clause-other : goal.returns-clause-other
returns-clause-other c long h = kind_told _ _ _ _ kind.Unknown c.page_of_kind.ensures (c.kind_of.ensures ∙ kind_unknown c.args.octets.now long h)

pub returns-clause-mic : goal.returns-clause-mic
returns-clause-mic c h = first_told _ _ _ _ c.page_of_kind.ensures c.kind_of.ensures 4 refl h

pub returns-clause-wrap : goal.returns-clause-wrap
returns-clause-wrap c h = first_told _ _ _ _ c.page_of_kind.ensures c.kind_of.ensures 5 refl h

pub returns-clause-neg_token_init : goal.returns-clause-neg_token_init
returns-clause-neg_token_init c h = first_told _ _ _ _ c.page_of_kind.ensures c.kind_of.ensures 160 refl h

pub returns-clause-neg_token_resp : goal.returns-clause-neg_token_resp
returns-clause-neg_token_resp c h = first_told _ _ _ _ c.page_of_kind.ensures c.kind_of.ensures 161 refl h

pub returns-clause-negotiation : goal.returns-clause-negotiation
returns-clause-negotiation c h i = negotiation_told _ _ _ _ c.page_of_kind.ensures c.kind_of.ensures h i (memory_told (errors.OutOfMemory, refl, tt, inl refl))

pub returns-clause-ap_req : goal.returns-clause-ap_req
returns-clause-ap_req c h i = id_told _ _ _ _ c.page_of_kind.ensures c.kind_of.ensures h 1 0 i (memory_told (errors.OutOfMemory, refl, tt, inl refl))

pub returns-clause-ap_rep : goal.returns-clause-ap_rep
returns-clause-ap_rep c h i = id_told _ _ _ _ c.page_of_kind.ensures c.kind_of.ensures h 2 0 i (memory_told (errors.OutOfMemory, refl, tt, inl refl))

pub returns-clause-krb_error : goal.returns-clause-krb_error
returns-clause-krb_error c h i = id_told _ _ _ _ c.page_of_kind.ensures c.kind_of.ensures h 3 0 i (memory_told (errors.OutOfMemory, refl, tt, inl refl))

pub returns-clause-tgt_req : goal.returns-clause-tgt_req
returns-clause-tgt_req c h i = id_told _ _ _ _ c.page_of_kind.ensures c.kind_of.ensures h 4 0 i (memory_told (errors.OutOfMemory, refl, tt, inl refl))

pub returns-clause-tgt_rep : goal.returns-clause-tgt_rep
returns-clause-tgt_rep c h i = id_told _ _ _ _ c.page_of_kind.ensures c.kind_of.ensures h 4 1 i (memory_told (errors.OutOfMemory, refl, tt, inl refl))

pub returns-clause-as_req : goal.returns-clause-as_req
returns-clause-as_req c h i = id_told _ _ _ _ c.page_of_kind.ensures c.kind_of.ensures h 5 0 i (memory_told (errors.OutOfMemory, refl, tt, inl refl))

pub returns-clause-as_rep : goal.returns-clause-as_rep
returns-clause-as_rep c h i = id_told _ _ _ _ c.page_of_kind.ensures c.kind_of.ensures h 6 0 i (memory_told (errors.OutOfMemory, refl, tt, inl refl))

pub returns-clause-iakerb : goal.returns-clause-iakerb
returns-clause-iakerb c h i = id_told _ _ _ _ c.page_of_kind.ensures c.kind_of.ensures h 5 1 i (
  λ k. memory_told (inr (inr refl)),
  λ k. memory_told (inr (inr refl)),
  λ k. memory_told (inr (inr refl)),
  λ k. memory_told (inr (inr refl)),
  λ k. memory_told (inr (inr refl)),
  λ k. memory_told (inr (inr refl)),
  λ k. memory_told (inr (inr refl)),
  λ k. memory_told (inr (inr refl)),
)

pub returns-clause-no_id : goal.returns-clause-no_id
returns-clause-no_id c h i = none_told _ _ _ _ c.page_of_kind.ensures c.kind_of.ensures h i (memory_told (errors.OutOfMemory, refl, tt, inl refl))

pub returns-clause-other_id : goal.returns-clause-other_id
returns-clause-other_id c h first second i other = id_refused _ _ _ _ c.page_of_kind.ensures c.kind_of.ensures h first second i other
