-- Several messages, one behind another.
use Rattle.std.proofs.Common.{◌≡◌, ℕ, zero, suc, ◌+◌, ◌≤◌, inl, inr, ⊎_elim, List, [], ◌∷◌, ◌++◌, length, take, drop, refl, sym, ap, ◌∙◌, subst, append_assoc, length-append, length-drop, Result, Ok, Err, true, if◌then◌else◌, arith}
use Rattle.std.proofs.lemmas.List.{append-nil}
use Rattle.std.specs.List.{flat_map}
use Rattle.std.specs.Result.{is_ok}
use Rattle.std.specs.declared.io.Error.{Error}
use Rattle.krb_negoex.specs.Rejected.{IsMemory}
use Rattle.krb_show.specs.Tokens.{Token}
use Rattle.krb_show_negoex.specs.Negoex.{AreMessages, AreTold, IsFirst, IsFollowed, IsMessage, IsMessageTold, StandBefore, list_tokens, own_length}

-- what is appended, where there is room
pub appended : {A B : Type 0} (result : Result A B) (old more new : List Token) → new ≡ (if is_ok result then old ++ more else old) → is_ok result ≡ true → new ≡ old ++ more
appended (Ok x) old more new e ok = e
appended (Err x) old more new e ok = absurd cc

module _ {P : Type 0} (tokens : P → List Token) where
  pub before_more : (octets : List ℕ) (pages : List P) (rest : List ℕ) (page : P) → StandBefore tokens octets pages rest → IsFollowed rest
      → IsMessageTold true tokens (take (own_length rest) rest) (Ok page) → StandBefore tokens octets (pages ++ page ∷ []) (drop (own_length rest) rest)
  before_more octets [] rest page e f t =
      subst (λ (o : List ℕ). IsFollowed o × IsMessageTold true tokens (take (own_length o) o) (Ok page) × (drop (own_length o) o ≡ drop (own_length rest) rest)) (sym e) (f, t, refl)
  before_more octets (p ∷ ps) rest page b f t = (b.0, b.1, before_more (drop (own_length octets) octets) ps rest page b.2 f t)

  pub before_short : (octets : List ℕ) (pages : List P) (rest : List ℕ) → StandBefore tokens octets pages rest → length pages + length rest ≤ length octets
  before_short octets [] rest e = omega (arith, ap length e)
  before_short octets (p ∷ ps) rest b =
      omega (arith, before_short (drop (own_length octets) octets) ps rest b.2, length-drop (own_length octets) octets, b.0.0, b.0.1)

  untold_message : (p : List ℕ) (e : Error) → IsMessage p → IsMessageTold true tokens p (Err e) → IsMemory e
  untold_message p e m t =
      ⊎_elim (λ h. (t.nego m.0 h.0).reads h.1 h.2) (λ k. ⊎_elim (λ h. (t.exchange m.0 h.0 h.1).reads h.2 h.3) (λ h. (t.verify m.0 h.0).reads h.1 h.2) k) m.1

  first_memory : (n : ℕ) (octets : List ℕ) (pages : List P) (rest first : List ℕ) (e : Error) → AreMessages n octets → StandBefore tokens octets pages rest
      → IsFirst rest first → IsMessageTold true tokens first (Err e) → IsMemory e
  first_memory zero octets [] rest first e a b i t =
      ⊎_elim (λ h. absurd (a.0 (subst IsFollowed (sym b) h.0))) (λ h. untold_message first e (subst IsMessage (b ∙ sym h.1) a.1) t) i
  first_memory zero octets (p ∷ ps) rest first e a b i t = absurd (a.0 b.0)
  first_memory (suc n) octets [] rest first e a b i t =
      ⊎_elim (λ h. untold_message first e (subst IsMessage (ap (λ o. take (own_length o) o) b ∙ sym h.1) a.1) t) (λ h. absurd (h.0 (subst IsFollowed b a.0))) i
  first_memory (suc n) octets (p ∷ ps) rest first e a b i t = first_memory n (drop (own_length octets) octets) ps rest first e a.2 b.2 i t

  pub several_error : (octets : List ℕ) (pages : List P) (rest first : List ℕ) (result : Result P Error) (e : Error) → StandBefore tokens octets pages rest
      → IsFirst rest first → IsMessageTold true tokens first result → result ≡ Err e → AreTold tokens octets (Err e)
  several_error octets pages rest first result e b i t is =
      let error : IsMessageTold true tokens first (Err e) = subst (λ (r : Result P Error). IsMessageTold true tokens first r) is t in
      record {
        found = tt;
        reads = λ n a. first_memory n octets pages rest first e a b i error;
        refused = inr (record { pages = pages; rest = rest; first = first; before = b; is_first = i; error = error });
      }

  pub several_memory : (octets : List ℕ) (e : Error) → IsMemory e → AreTold tokens octets (Err e)
  several_memory octets e m = record { found = tt; reads = λ n a. m; refused = inl m }

  -- the messages that are read so far, their tokens and their number
  pub record SoFar (octets rest : List ℕ) (items : List Token) (count : ℕ) : Type 0 where
    pub pages : List P
    pub before : StandBefore tokens octets pages rest
    pub items_are : items ≡ flat_map tokens pages
    pub count_is : count ≡ length pages

  pub none_so_far : (octets : List ℕ) → SoFar octets octets [] 0
  none_so_far octets = record { pages = []; before = refl; items_are = refl; count_is = refl }

  flat_more : (pages : List P) (page : P) → flat_map tokens pages ++ tokens page ≡ flat_map tokens (pages ++ page ∷ [])
  flat_more [] page = sym (append-nil (tokens page))
  flat_more (p ∷ ps) page = append_assoc (tokens p) (flat_map tokens ps) (tokens page) ∙ ap (λ z. tokens p ++ z) (flat_more ps page)

  pub one_more : (octets rest : List ℕ) (items : List Token) (count : ℕ) (first : List ℕ) (result : Result P Error) (page : P) → SoFar octets rest items count → IsFollowed rest
      → first ≡ take (own_length rest) rest → IsMessageTold true tokens first result → result ≡ Ok page → SoFar octets (drop (own_length rest) rest) (items ++ tokens page) (count + 1)
  one_more octets rest items count first result page so f e t is =
      let pages = so.pages in
      let here : IsMessageTold true tokens first (Ok page) = subst (λ (r : Result P Error). IsMessageTold true tokens first r) is t in
      let there : IsMessageTold true tokens (take (own_length rest) rest) (Ok page) = subst (λ (o : List ℕ). IsMessageTold true tokens o (Ok page)) e here in
      let long : length (pages ++ page ∷ []) ≡ length pages + 1 = length-append pages (page ∷ []) in
      record {
        pages = pages ++ page ∷ [];
        before = before_more octets pages rest page so.before f there;
        items_are = ap (λ z. z ++ tokens page) so.items_are ∙ flat_more pages page;
        count_is = ap (λ k. k + 1) so.count_is ∙ sym long;
      }

  pub count_fits : (octets rest : List ℕ) (items : List Token) (count : ℕ) → SoFar octets rest items count → count ≤ length octets
  count_fits octets rest items count so = omega (arith, before_short octets so.pages rest so.before, so.count_is)

  pub all_told : (octets rest : List ℕ) (items : List Token) (count : ℕ) (result : Result P Error) (last page : P) → SoFar octets rest items count → (IsFollowed rest → ⊥)
      → IsMessageTold true tokens rest result → result ≡ Ok last → tokens page ≡ list_tokens (count + 1) (items ++ tokens last) → AreTold tokens octets (Ok page)
  all_told octets rest items count result last page so alone t is shown = record {
    found = record {
      pages = so.pages;
      last = last;
      rest = rest;
      before = so.before;
      alone = alone;
      told_last = subst (λ (r : Result P Error). IsMessageTold true tokens rest r) is t;
      is = shown ∙ ap (λ z. list_tokens (count + 1) (z ++ tokens last)) so.items_are ∙ ap (λ k. list_tokens (k + 1) (flat_map tokens so.pages ++ tokens last)) so.count_is;
    };
    reads = λ n a. tt;
    refused = tt;
  }
