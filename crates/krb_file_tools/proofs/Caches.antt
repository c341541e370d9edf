-- The cache of tickets and what goes along with them, by their credentials.
use Rattle.std.proofs.Common.{◌≡◌, ◌∙◌, inl, ℕ, List, Ok, Err, refl, subst, sym}
use Rattle.std.specs.Prelude.{filter}
use Rattle.krb_files.specs.Ccache.{Credential}
use Rattle.krb_enc_parts.specs.declared.data_types.credentials.EncKrbCredPartInner.{EncKrbCredPartInner}
use Rattle.krb_enc_parts.specs.declared.data_types.credentials.KrbCredInfo.{KrbCredInfo}
use Rattle.krb_messages.specs.declared.messages.credentials.KrbCredInner.{KrbCredInner}
use Rattle.krb_types.specs.declared.data_types.tickets.TicketInner.{TicketInner}
use Rattle.krb_file_tools.specs.Answers.{IsMemoryOr}
use Rattle.krb_file_tools.specs.Kirbi.{cache_from, cache_with, paired_from}
use Rattle.krb_file_tools.specs.Whole.{IsCacheBy, IsMade, IsUnwritten, kirbi_fields, kirbi_has}
use Rattle.krb_file_tools.specs.declared.convert.error.ConvertError.{ConvertError}
use Rattle.krb_file_tools.specs.declared.convert.field.Field.{Field}
use Rattle.krb_file_tools.proofs.Refusals.{or_memory}

module _ (octets_of : TicketInner → List ℕ) (tickets : List TicketInner) (infos : List KrbCredInfo) where
  cache_is : (made : List Credential) → paired_from octets_of tickets infos ≡ Ok made → cache_with made ≡ cache_from octets_of tickets infos
  cache_is made h = rw h refl

  same_pairs : (ts : List TicketInner) (is : List KrbCredInfo) → ts ≡ tickets → is ≡ infos → paired_from octets_of ts is ≡ paired_from octets_of tickets infos
  same_pairs ts is a b = rw (a, b) refl

  pub unpaired : (ts : List TicketInner) (is : List KrbCredInfo) (e : ConvertError) → ts ≡ tickets → is ≡ infos → IsMemoryOr e (paired_from octets_of ts is ≡ Err e)
      → IsMemoryOr e (IsUnwritten e (cache_from octets_of tickets infos))
  unpaired ts is e a b = or_memory e (λ h. inl (rw (sym (same_pairs ts is a b) ∙ h) refl))

  pub unwritten : (ts : List TicketInner) (is : List KrbCredInfo) (made lent : List Credential) (e : ConvertError) → ts ≡ tickets → is ≡ infos → lent ≡ made
      → paired_from octets_of ts is ≡ Ok made → IsMemoryOr e (IsUnwritten e (cache_with lent)) → IsMemoryOr e (IsUnwritten e (cache_from octets_of tickets infos))
  unwritten ts is made lent e a b same h =
      or_memory e (λ u. subst (IsUnwritten e) (cache_is made (sym (same_pairs ts is a b) ∙ h)) (subst (λ (l : List Credential). IsUnwritten e (cache_with l)) same u))

  pub made_cache : (ts : List TicketInner) (is : List KrbCredInfo) (made lent : List Credential) (octets : List ℕ) → ts ≡ tickets → is ≡ infos → lent ≡ made
      → paired_from octets_of ts is ≡ Ok made → IsMade octets lent (cache_with lent) → IsMade octets lent (cache_from octets_of tickets infos)
  made_cache ts is made lent octets a b same h was =
      subst (IsMade octets lent) (cache_is made (sym (same_pairs ts is a b) ∙ h)) (subst (λ (l : List Credential). IsMade octets lent (cache_with l)) same was)

pub found_by : (octets_of : TicketInner → List ℕ) (k : KrbCredInner) (p : EncKrbCredPartInner) (ts : List TicketInner) (is : List KrbCredInfo) (made lent : List Credential)
    (octets : List ℕ) (left_out : List Field) → ts ≡ k.tickets → is ≡ p.ticket_info → lent ≡ made → paired_from octets_of ts is ≡ Ok made
    → IsMade octets lent (cache_with lent) × (left_out ≡ filter (kirbi_has k p lent) kirbi_fields) → IsCacheBy octets_of k p octets left_out
found_by octets_of k p ts is made lent octets left_out a b same h was = record {
  credentials = lent;
  cache = made_cache octets_of k.tickets p.ticket_info ts is made lent octets a b same h was.0;
  left = was.1;
}
