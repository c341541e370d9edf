-- What is told of octets of NEGOEX.
use Rattle.std.proofs.Common.{◌≡◌, ◌≢◌, ℕ, ◌<◌, ◌≤◌, ◌⊎◌, inl, inr, ⊎_elim, List, [], length, Option, sym, ◌∙◌, Result, Ok, Err, IfOk, IfErr, arith}
use Rattle.std.specs.IoError.{error_kind}
use Rattle.std.specs.declared.io.Error.{Error}
use Rattle.std.specs.declared.io.ErrorKind.TheVariants.{InvalidData}
use Rattle.krb_negoex.specs.Layouts.{Layout}
use Rattle.krb_negoex.specs.Rejected.{IsMemory}
use Rattle.krb_negoex.specs.View.{ExchangeSeen, NegoSeen, VerifySeen, exchange_view_layout, nego_view_layout, verify_view_layout}
use Rattle.krb_negoex.specs.Wire.{header_layout}
use Rattle.krb_negoex.specs.declared.header.MessageHeader.{MessageHeader}
use Rattle.krb_show.specs.Tokens.{Token}
use Rattle.krb_show_negoex.specs.Negoex.{IsToldAs, IsUnsaid, told}

module _ {A P : Type 0} (layout : Layout A) (header : A → MessageHeader) (written : A → List ℕ) (shows : A → Option (List ℕ) → List Token → List Token → Type 0)
    (tokens : P → List Token) (octets : List ℕ) where
  pub told_rejected : (e : Error) → layout.rejects octets octets e → IsToldAs layout header (told written shows octets) tokens octets (Err e)
  told_rejected e r = record { found = tt; reads = λ v w. layout.no_part octets octets e v r w.is; refused = inr (inl r) }

  pub told_message : (v : A) (unsaid : Option (List ℕ)) (result : Result P Error) → layout.part octets octets v
      → ((w : A) → layout.part octets octets w → (header w).message_len ≡ (header v).message_len)
      → IsUnsaid octets (written v) unsaid
      → IfOk result (λ p. ((header v).message_len ≡ length octets) × shows v unsaid [] (tokens p))
      → IfErr result (λ e. IsMemory e ⊎ ((error_kind e ≡ InvalidData) × ((header v).message_len ≢ length octets)))
      → IsToldAs layout header (told written shows octets) tokens octets result
  told_message v unsaid (Ok p) is one rest found refused =
      record { found = (v, record { is = is; size = found.0 }, (unsaid, rest, found.1)); reads = λ w x. tt; refused = tt }
  told_message v unsaid (Err e) is one rest found refused = record {
    found = tt;
    reads = λ w x. ⊎_elim (λ m. m) (λ h. absurd (h.1 (sym (one w x.is) ∙ x.size))) refused;
    refused = ⊎_elim (λ m. inl m) (λ h. inr (inr (record { kind = h.0; message = v; is = is; other = h.1 }))) refused;
  }

-- octets that are read as two messages say one length
pub nego_length : (octets : List ℕ) (v w : NegoSeen) → nego_view_layout.part octets octets v → nego_view_layout.part octets octets w
    → w.header.message_len ≡ v.header.message_len
nego_length octets v w x y = (nego_view_layout.one_part octets octets w v y x).0.1.1.1.1.0

pub exchange_length : (octets : List ℕ) (v w : ExchangeSeen) → exchange_view_layout.part octets octets v → exchange_view_layout.part octets octets w
    → w.header.message_len ≡ v.header.message_len
exchange_length octets v w x y = (exchange_view_layout.one_part octets octets w v y x).0.1.1.1.1.0

pub verify_length : (octets : List ℕ) (v w : VerifySeen) → verify_view_layout.part octets octets v → verify_view_layout.part octets octets w
    → w.header.message_len ≡ v.header.message_len
verify_length octets v w x y = (verify_view_layout.one_part octets octets w v y x).0.1.1.1.1.0

-- octets that end in the header have the header's error
pub cut_header : (octets : List ℕ) (e : Error) → length octets < 12 → exchange_view_layout.rejects octets octets e → header_layout.rejects octets octets e
cut_header octets e short r = ⊎_elim (λ h. h) (λ h.
    let room : 40 ≤ length octets = header_layout.room octets octets h.0 h.1 in
    absurd (omega (arith, room, short))) r

pub no_message : (octets : List ℕ) (v : ExchangeSeen) → length octets < 12 → exchange_view_layout.part octets octets v → ⊥
no_message octets v short x =
    let room : 64 ≤ length octets = exchange_view_layout.room octets octets v x in
    omega (arith, room, short)
