-- Why there is no KRB-CRED, rule by rule, and that a KRB-CRED is made.
use Rattle.std.proofs.Common.{◌≡◌, ◌∙◌, ℕ, pos, List, None, sym, ap, subst}
use Rattle.krb_files.specs.Ccache.{Ccache, CcacheIs, Credential}
use Rattle.krb_der_core.specs.declared.der.DerEncode.{Ghosts as EncodingOf}
use Rattle.krb_messages.specs.declared.messages.credentials.KrbCredInner.{KrbCredInner}
use Rattle.krb_enc_parts.specs.declared.data_types.credentials.EncKrbCredPartInner.{EncKrbCredPartInner}
use Rattle.krb_enc_parts.specs.declared.data_types.credentials.KrbCredInfo.{KrbCredInfo}
use Rattle.krb_types.specs.declared.data_types.encryption.EncryptedData.{EncryptedData}
use Rattle.krb_types.specs.declared.data_types.tickets.TicketInner.{TicketInner}
use Rattle.krb_file_tools.specs.Answers.{IsMemoryOr, IsNot}
use Rattle.krb_file_tools.specs.Back.{CcacheRefusal, CredentialError, FirstBroken, IsMessageOf, broken, no_ticket}
use Rattle.krb_file_tools.specs.Message.{IsInfoOf}
use Rattle.krb_file_tools.specs.Tickets.{tickets_of}
use Rattle.krb_file_tools.specs.Whole.{FirstError, IsValue}
use Rattle.krb_file_tools.specs.declared.convert.error.ConvertError.{ConvertError}
use Rattle.krb_file_tools.specs.declared.convert.form.Form.TheVariants as form
use Rattle.krb_file_tools.proofs.Refusals.{or_memory}

pub ticket_broken : {T : Type 0} (ticket : EncodingOf T) (c : Credential) (info : KrbCredInfo) (octets : List ℕ) (e : ConvertError) → octets ≡ c.ticket → IsInfoOf c info
    → IsMemoryOr e (IsNot form.Ticket (FirstError ticket octets) e) → IsMemoryOr e (CredentialError ticket c e)
ticket_broken ticket c info octets e same along =
    or_memory e (λ n. subst (CredentialError ticket c) (sym n.1) (no_ticket info n.0 along (subst (λ (o : List ℕ). FirstError ticket o n.0) same n.2)))

pub credentials_broken : (ticket : EncodingOf TicketInner) (octets : List ℕ) (cache : Ccache) (kept : List Credential) (e : ConvertError) → CcacheIs octets cache
    → kept ≡ tickets_of cache.credentials → IsMemoryOr e (FirstBroken ticket kept e) → IsMemoryOr e (CcacheRefusal ticket octets e)
credentials_broken ticket octets cache kept e whole same =
    or_memory e (λ b. broken cache e whole (subst (λ (l : List Credential). FirstBroken ticket l e) same b))

pub made : (part : EncodingOf EncKrbCredPartInner) (tickets : List TicketInner) (infos : List KrbCredInfo) (k : KrbCredInner) (p : EncKrbCredPartInner) (d : EncryptedData)
    (cipher : List ℕ) → k.pvno ≡ pos 5 → k.msg_type ≡ pos 22 → k.tickets ≡ tickets → k.enc_part ≡ d → d.etype ≡ pos 0 → d.kvno.0 ≡ None → d.cipher ≡ cipher
    → IsValue part cipher p → p.ticket_info ≡ infos → p.nonce.0 ≡ None → p.timestamp.0 ≡ None → p.usec.0 ≡ None → p.s_address.0 ≡ None → p.r_address.0 ≡ None
    → IsMessageOf part tickets infos k p
made part tickets infos k p d cipher pvno kind ts sealed etype kvno octets value is n t u s r = record {
  pvno = pvno;
  msg_type = kind;
  tickets_are = ts;
  etype = ap (λ (x : EncryptedData). x.etype) sealed ∙ etype;
  no_kvno = ap (λ (x : EncryptedData). x.kvno.0) sealed ∙ kvno;
  cipher = subst (λ (o : List ℕ). IsValue part o p) (sym (ap (λ (x : EncryptedData). x.cipher) sealed ∙ octets)) value;
  infos_are = is;
  no_nonce = n;
  no_timestamp = t;
  no_usec = u;
  no_s_address = s;
  no_r_address = r;
}
