-- Why there is no cache, rule by rule.
use Rattle.std.proofs.Common.{◌≡◌, ◌∙◌, inl, inr, ℕ, ℤ, pos, true, false, List, sym, subst}
use Rattle.krb_der_core.specs.declared.der.DerEncode.{Ghosts as EncodingOf}
use Rattle.krb_messages.specs.declared.messages.credentials.KrbCredInner.{KrbCredInner}
use Rattle.krb_enc_parts.specs.declared.data_types.credentials.EncKrbCredPartInner.{EncKrbCredPartInner}
use Rattle.krb_types.specs.declared.data_types.tickets.TicketInner.{TicketInner}
use Rattle.krb_file_tools.specs.Answers.{IsMemoryOr, IsNot}
use Rattle.krb_file_tools.specs.Kirbi.{cache_from}
use Rattle.krb_file_tools.specs.Whole.{ClearError, FirstError, IsCacheBy, IsCacheFrom, IsCacheOf, IsClear, IsUnwritten, IsValue, KirbiRefusal, MessageError, in_message, no_cache, no_message, no_part, not_clear}
use Rattle.krb_file_tools.specs.declared.convert.field.Field.{Field}
use Rattle.krb_file_tools.specs.declared.convert.error.ConvertError.{ConvertError}
use Rattle.krb_file_tools.specs.declared.convert.form.Form.TheVariants as form

pub no_true : false ≡ true → ⊥
no_true h = absurd cc

-- a reason for another
pub or_memory : {A B : Type 0} (e : ConvertError) → (A → B) → IsMemoryOr e A → IsMemoryOr e B
or_memory e f (inl m) = inl m
or_memory e f (inr a) = inr (f a)

pub part_broken : {P : Type 0} (part : EncodingOf P) (pvno msg_type etype : ℤ) (cipher : List ℕ) (e : ConvertError) → pvno ≡ pos 5 → msg_type ≡ pos 22 → etype ≡ pos 0
    → IsNot form.Part (FirstError part cipher) e → ClearError part pvno msg_type etype cipher e
part_broken part pvno msg_type etype cipher e a b c n = subst (ClearError part pvno msg_type etype cipher) (sym n.1) (no_part n.0 a b c n.2)

-- the same of equal numbers
clear_same : {P : Type 0} (part : EncodingOf P) (pvno pvno' kind kind' etype etype' : ℤ) (cipher cipher' : List ℕ) (p : P) → pvno ≡ pvno' → kind ≡ kind' → etype ≡ etype' → cipher ≡ cipher'
    → IsClear part pvno kind etype cipher p → IsClear part pvno' kind' etype' cipher' p
clear_same part pvno pvno' kind kind' etype etype' cipher cipher' p a b c d h = record {
  protocol = sym a ∙ h.protocol;
  kind = sym b ∙ h.kind;
  clear = sym c ∙ h.clear;
  opened = subst (λ (o : List ℕ). IsValue part o p) d h.opened;
}

error_same : {P : Type 0} (part : EncodingOf P) (pvno pvno' kind kind' etype etype' : ℤ) (cipher cipher' : List ℕ) (e : ConvertError) → pvno ≡ pvno' → kind ≡ kind' → etype ≡ etype' → cipher ≡ cipher'
    → ClearError part pvno kind etype cipher e → ClearError part pvno' kind' etype' cipher' e
error_same part pvno pvno' kind kind' etype etype' cipher cipher' e a b c d h =
    subst (λ (x : ℤ). ClearError part x kind' etype' cipher' e) a
    (subst (λ (x : ℤ). ClearError part pvno x etype' cipher' e) b
    (subst (λ (x : ℤ). ClearError part pvno kind x cipher' e) c
    (subst (λ (o : List ℕ). ClearError part pvno kind etype o e) d h)))

-- the numbers of a message, and what stands in the place of its ciphertext
pub record AreNumbersOf (k : KrbCredInner) (pvno kind etype : ℤ) (cipher : List ℕ) : Type 0 where
  pub pvno_is : pvno ≡ k.pvno
  pub kind_is : kind ≡ k.msg_type
  pub etype_is : etype ≡ k.enc_part.etype
  pub cipher_is : cipher ≡ k.enc_part.cipher

module _ (part : EncodingOf EncKrbCredPartInner) (ticket_octets : TicketInner → List ℕ) where
  pub clear_broken : (k : KrbCredInner) (pvno kind etype : ℤ) (cipher : List ℕ) (e : ConvertError) → AreNumbersOf k pvno kind etype cipher
      → IsMemoryOr e (ClearError part pvno kind etype cipher e) → IsMemoryOr e (MessageError part ticket_octets k e)
  clear_broken k pvno kind etype cipher e n =
      or_memory e (λ h. not_clear (error_same part pvno k.pvno kind k.msg_type etype k.enc_part.etype cipher k.enc_part.cipher e n.pvno_is n.kind_is n.etype_is n.cipher_is h))

  pub cache_broken : (k : KrbCredInner) (pvno kind etype : ℤ) (cipher : List ℕ) (p q : EncKrbCredPartInner) (e : ConvertError) → AreNumbersOf k pvno kind etype cipher → q ≡ p
      → IsClear part pvno kind etype cipher p → IsMemoryOr e (IsUnwritten e (cache_from ticket_octets k.tickets q.ticket_info)) → IsMemoryOr e (MessageError part ticket_octets k e)
  cache_broken k pvno kind etype cipher p q e n same clear =
      or_memory e (λ u. no_cache p
      (clear_same part pvno k.pvno kind k.msg_type etype k.enc_part.etype cipher k.enc_part.cipher p n.pvno_is n.kind_is n.etype_is n.cipher_is clear)
      (subst (λ (x : EncKrbCredPartInner). IsUnwritten e (cache_from ticket_octets k.tickets x.ticket_info)) same u))

  pub cache_found : (k : KrbCredInner) (pvno kind etype : ℤ) (cipher : List ℕ) (p q : EncKrbCredPartInner) (written : List ℕ) (left_out : List Field) → AreNumbersOf k pvno kind etype cipher
      → q ≡ p → IsClear part pvno kind etype cipher p → IsCacheBy ticket_octets k q written left_out → IsCacheFrom part ticket_octets k written left_out
  cache_found k pvno kind etype cipher p q written left_out n same clear by = record {
    p = p;
    clear = clear_same part pvno k.pvno kind k.msg_type etype k.enc_part.etype cipher k.enc_part.cipher p n.pvno_is n.kind_is n.etype_is n.cipher_is clear;
    by_part = subst (λ (x : EncKrbCredPartInner). IsCacheBy ticket_octets k x written left_out) same by;
  }

  pub message_broken : (message : EncodingOf KrbCredInner) (octets : List ℕ) (e : ConvertError) → IsMemoryOr e (IsNot form.Kirbi (FirstError message octets) e)
      → IsMemoryOr e (KirbiRefusal message part ticket_octets octets e)
  message_broken message octets e = or_memory e (λ n. no_message n.0 n.1 n.2)

  pub inside_broken : (message : EncodingOf KrbCredInner) (octets : List ℕ) (k q : KrbCredInner) (e : ConvertError) → q ≡ k → IsValue message octets k
      → IsMemoryOr e (MessageError part ticket_octets q e) → IsMemoryOr e (KirbiRefusal message part ticket_octets octets e)
  inside_broken message octets k q e same value =
      or_memory e (λ m. in_message k value (subst (λ (x : KrbCredInner). MessageError part ticket_octets x e) same m))

  pub inside_found : (message : EncodingOf KrbCredInner) (octets : List ℕ) (k q : KrbCredInner) (written : List ℕ) (left_out : List Field) → q ≡ k → IsValue message octets k
      → IsCacheFrom part ticket_octets q written left_out → IsCacheOf message part ticket_octets octets written left_out
  inside_found message octets k q written left_out same value from = record {
    k = k;
    whole = value;
    from_message = subst (λ (x : KrbCredInner). IsCacheFrom part ticket_octets x written left_out) same from;
  }
