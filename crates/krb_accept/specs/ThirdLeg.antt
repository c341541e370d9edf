-- The third leg of DCE style (MS-KILE, 3.4.5.1): an AP-REP of the client (RFC 4120, 5.5.2).
use Rattle.std.specs.Prelude.{◌≡◌, ◌⊎◌, ℕ, ℤ, pos, List, Some}
use Rattle.krb_accept_rules.specs.Values.{HasNone, IsTheValue}
use Rattle.krb_accept_rules.specs.declared.accepted.Accepted.{Accepted}
use Rattle.krb_der_core.specs.declared.der.DerEncode.{Ghosts as EncodingOf}
use Rattle.krb_enc_parts.specs.declared.data_types.authenticators.EncApRepPartInner.{EncApRepPartInner}
use Rattle.krb_messages.specs.declared.messages.application.ApRepInner.{ApRepInner}
use Rattle.krb_types.specs.declared.data_types.encryption.EncryptionKey.{EncryptionKey}
use Rattle.krb_accept.specs.Opening.{Encodes}
use Rattle.krb_accept.specs.WithKey.{IsSealedWith}
use Rattle.krb_accept.specs.declared.third_leg.ThirdLegError.{ThirdLegError}
use Rattle.krb_accept.specs.declared.third_leg.ThirdLegError.TheVariants as errors

-- the numbers of errors (RFC 4120, 7.5.9)
abbrev pub third_leg_error_code : ThirdLegError → ℕ
third_leg_error_code errors.NotReply = 40
third_leg_error_code errors.Reflected = 47
third_leg_error_code errors.Part = 31
third_leg_error_code errors.Time = 46
third_leg_error_code errors.SequenceNumber = 46
third_leg_error_code errors.OutOfMemory = 60

-- pvno and msg-type (5.5.2)
abbrev pub HasNumbers : ApRepInner → Type 0
HasNumbers m = (m.pvno ≡ pos 5) × (m.msg_type ≡ pos 15)

-- the time of the client's authenticator, in seconds and microseconds
abbrev pub HasTime : Accepted → EncApRepPartInner → Type 0
HasTime a v = (v.ctime ≡ a.ctime) × (v.cusec ≡ a.cusec)

-- it has another time; or that time, and not this sequence number
abbrev pub IsNotAgreed : Accepted → ℤ → EncApRepPartInner → ThirdLegError → Type 0
IsNotAgreed a number v e =
    ((e ≡ errors.Time) × (HasTime a v → ⊥))
    ⊎ ((e ≡ errors.SequenceNumber) × HasTime a v × (v.seq_number.0 ≡ Some number → ⊥))

module _ (part : EncodingOf EncApRepPartInner) where
  -- The message is an AP-REP, whose part is encrypted under the session key, for key usage 12, and has the client's time and the service's sequence number.
  pub record IsThirdLeg (a : Accepted) (number : ℤ) (m : ApRepInner) : Type 0 where
    pub value : EncApRepPartInner
    pub numbers : HasNumbers m
    pub value_is : IsTheValue (IsSealedWith part a.ticket.key (pos 12) m.enc_part) value
    pub time : HasTime a value
    pub number_is : value.seq_number.0 ≡ Some number

  -- It is none by its numbers; or the session key does not decrypt its part; or what is in it is not agreed on; or memory was wanting.
  abbrev pub IsNoThirdLeg : Accepted → ℤ → ApRepInner → ThirdLegError → Type 0
  IsNoThirdLeg a number m e =
      (e ≡ errors.OutOfMemory)
      ⊎ (((e ≡ errors.NotReply) × (HasNumbers m → ⊥))
      ⊎ ((HasNumbers m × (e ≡ errors.Part) × HasNone (IsSealedWith part a.ticket.key (pos 12) m.enc_part))
      ⊎ ((v : EncApRepPartInner) × HasNumbers m × IsTheValue (IsSealedWith part a.ticket.key (pos 12) m.enc_part) v × IsNotAgreed a number v e)))

module _ (ap_rep : EncodingOf ApRepInner) (part : EncodingOf EncApRepPartInner) where
  -- the octets are the one encoding of such a message
  abbrev pub IsConfirmed : Accepted → ℤ → List ℕ → Type 0
  IsConfirmed a number octets = (m : ApRepInner) × IsTheValue (Encodes ap_rep octets) m × IsThirdLeg part a number m

  -- they are the encoding of no AP-REP, or of one that is not the third leg; or memory was wanting
  abbrev pub IsNotConfirmed : Accepted → ℤ → List ℕ → ThirdLegError → Type 0
  IsNotConfirmed a number octets e =
      (e ≡ errors.OutOfMemory)
      ⊎ (((e ≡ errors.NotReply) × HasNone (Encodes ap_rep octets))
      ⊎ ((m : ApRepInner) × IsTheValue (Encodes ap_rep octets) m × IsNoThirdLeg part a number m e))

-- ---- with no time compared

-- the service's own AP-REP has the same encrypted octets: what it sent came back to it
pub record IsReflected (ap_rep : EncodingOf ApRepInner) (own : List ℕ) (m : ApRepInner) : Type 0 where
  pub sent : ApRepInner
  pub encodes : Encodes ap_rep own sent
  pub same : m.enc_part.cipher ≡ sent.enc_part.cipher

module _ (ap_rep : EncodingOf ApRepInner) (part : EncodingOf EncApRepPartInner) where
  -- The message is an AP-REP and not the service's own; its part is encrypted under this session key, for key usage 12, and has the service's sequence number.
  pub record IsClientReply (key : EncryptionKey) (own : List ℕ) (number : ℤ) (m : ApRepInner) : Type 0 where
    pub value : EncApRepPartInner
    pub numbers : HasNumbers m
    pub not_own : IsReflected ap_rep own m → ⊥
    pub value_is : IsTheValue (IsSealedWith part key (pos 12) m.enc_part) value
    pub number_is : value.seq_number.0 ≡ Some number

  -- It is none by its numbers; or it is the service's own; or the session key does not decrypt its part; or that has not this number; or memory was wanting.
  abbrev pub IsNoClientReply : EncryptionKey → List ℕ → ℤ → ApRepInner → ThirdLegError → Type 0
  IsNoClientReply key own number m e =
      (e ≡ errors.OutOfMemory)
      ⊎ (((e ≡ errors.NotReply) × (HasNumbers m → ⊥))
      ⊎ (((e ≡ errors.Reflected) × HasNumbers m × IsReflected ap_rep own m)
      ⊎ (((e ≡ errors.Part) × HasNumbers m × (IsReflected ap_rep own m → ⊥) × HasNone (IsSealedWith part key (pos 12) m.enc_part))
      ⊎ ((v : EncApRepPartInner) × (e ≡ errors.SequenceNumber) × HasNumbers m × (IsReflected ap_rep own m → ⊥)
      × IsTheValue (IsSealedWith part key (pos 12) m.enc_part) v × (v.seq_number.0 ≡ Some number → ⊥)))))

  -- the octets are the one encoding of such a message
  abbrev pub IsFromClient : EncryptionKey → List ℕ → ℤ → List ℕ → Type 0
  IsFromClient key own number octets = (m : ApRepInner) × IsTheValue (Encodes ap_rep octets) m × IsClientReply key own number m

  -- they are the encoding of no AP-REP, or of one that is not such a message; or memory was wanting
  abbrev pub IsNotFromClient : EncryptionKey → List ℕ → ℤ → List ℕ → ThirdLegError → Type 0
  IsNotFromClient key own number octets e =
      (e ≡ errors.OutOfMemory)
      ⊎ (((e ≡ errors.NotReply) × HasNone (Encodes ap_rep octets))
      ⊎ ((m : ApRepInner) × IsTheValue (Encodes ap_rep octets) m × IsNoClientReply key own number m e))
