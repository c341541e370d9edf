-- The tickets of credentials and what goes along with them, one more.
use Rattle.std.proofs.Common.{◌≡◌, ◌∙◌, ℕ, ◌+◌, ◌<◌, List, [], ◌∷◌, ◌++◌, length, get_or, take, drop, refl, sym, ap, subst, drop-cons, add-one}
use Rattle.std.proofs.lemmas.List.{take_more, take-append-drop}
use Rattle.krb_files.specs.Ccache.{Credential}
use Rattle.krb_der_core.specs.declared.der.DerEncode.{Ghosts as EncodingOf}
use Rattle.krb_enc_parts.specs.declared.data_types.credentials.KrbCredInfo.{KrbCredInfo}
use Rattle.krb_file_tools.specs.Back.{AreEntriesOf, CredentialError, FirstBroken, IsEntryOf}
use Rattle.krb_file_tools.specs.declared.convert.error.ConvertError.{ConvertError}

module _ {T : Type 0} (ticket : EncodingOf T) where
  at_end : (cs : List Credential) (ts : List T) (infos : List KrbCredInfo) (c : Credential) (t : T) (info : KrbCredInfo) → AreEntriesOf ticket cs ts infos → IsEntryOf ticket c t info
      → AreEntriesOf ticket (cs ++ c ∷ []) (ts ++ t ∷ []) (infos ++ info ∷ [])
  at_end [] [] [] c t info all one = (one, tt)
  at_end [] [] (i ∷ is) c t info all one = absurd all
  at_end [] (u ∷ us) is c t info all one = absurd all
  at_end (d ∷ ds) [] is c t info all one = absurd all
  at_end (d ∷ ds) (u ∷ us) [] c t info all one = absurd all
  at_end (d ∷ ds) (u ∷ us) (i ∷ is) c t info all one = (all.0, at_end ds us is c t info all.1 one)

  pub entries_more : (cs : List Credential) (n : ℕ) (ts : List T) (infos : List KrbCredInfo) (c : Credential) (t : T) (info : KrbCredInfo) → n < length cs → c ≡ get_or cs n c
      → AreEntriesOf ticket (take n cs) ts infos → IsEntryOf ticket c t info → AreEntriesOf ticket (take (n + 1) cs) (ts ++ t ∷ []) (infos ++ info ∷ [])
  entries_more cs n ts infos c t info lt is all one =
      let taken : take (n + 1) cs ≡ take n cs ++ c ∷ [] = take_more cs n c lt ∙ ap (λ y. take n cs ++ y ∷ []) (sym is) in
      subst (λ (l : List Credential). AreEntriesOf ticket l (ts ++ t ∷ []) (infos ++ info ∷ [])) (sym taken) (at_end (take n cs) ts infos c t info all one)

  pub first_broken : (cs : List Credential) (n : ℕ) (ts : List T) (infos : List KrbCredInfo) (c : Credential) (e : ConvertError) → n < length cs → c ≡ get_or cs n c
      → AreEntriesOf ticket (take n cs) ts infos → CredentialError ticket c e → FirstBroken ticket cs e
  first_broken cs n ts infos c e lt is all why =
      let first : drop n cs ≡ c ∷ drop (n + 1) cs = drop-cons cs n c lt ∙ rw (add-one, ← is) refl in
      record {
        front = take n cs;
        tickets = ts;
        infos = infos;
        c = c;
        back = drop (n + 1) cs;
        among = sym (take-append-drop n cs) ∙ ap (λ l. take n cs ++ l) first;
        before = all;
        broken = why;
      }
