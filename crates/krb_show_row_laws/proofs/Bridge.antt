-- The tokens of the items of elements are what the elements add.
use Rattle.std.proofs.Common.{◌≡◌, ℕ, ◌+◌, Bool, true, false, refl, sym, ap, subst, ◌∙◌, List, [], ◌∷◌, ◌++◌, length, take, drop, arith}
use Rattle.std.specs.Fmt.{decimal}
use Rattle.std.proofs.lemmas.List.{append-nil, append_assoc, length-append, take_at, drop_at}
use Rattle.krb_der_core.specs.Tlv.{header, tlv}
use Rattle.krb_schema.specs.declared.item.Form.TheVariants as form
use Rattle.krb_schema.specs.declared.item.Item.{Item}
use Rattle.krb_schema.specs.declared.item.Node.{Node}
use Rattle.krb_schema.specs.declared.item.Node.TheVariants as nodes
use Rattle.krb_schema.specs.declared.shape.Leaf.{Leaf}
use Rattle.krb_schema.specs.declared.shape.Leaf.TheVariants as leaves
use Rattle.krb_schema.specs.declared.shape.Name.{Name}
use Rattle.krb_schema.specs.declared.shape.Role.{Role}
use Rattle.krb_schema.specs.Forests.{Forest, none, leaf, node, enc, item, items_at}
use Rattle.krb_schema.specs.Rules.{content_of}
use Rattle.krb_show.specs.declared.token.Form.TheVariants as tokens
use Rattle.krb_show.specs.Leaves.{name_of}
use Rattle.krb_show.specs.Tokens.{Label, Token, adds, leaf as token_leaf, mark}
use Rattle.krb_show.specs.Items.{Stand, begins_name, end_step, is_component, is_in_list, is_in_name, label_of, leaf_step, list_end, list_step, nameless, numbered, plain_leaf, popped, pushed, secret_of, shown}
use Rattle.krb_show.specs.Items.{behind_leaf as stand_behind}
use Rattle.krb_show.specs.declared.rows.stand.Secrets.TheVariants as secrets
use Rattle.krb_show_row_laws.specs.Pages.{behind, behind_leaf, components, forest_shown, is_of_name, leaf_shown, list_shown}
use Rattle.krb_show_row_laws.proofs.Counts.{counted_list, first_name, last_of, without_last}
use Rattle.krb_show_row_laws.proofs.PlainRows.{AllComponents, Either, IsPlain}

-- ---- what stands at the place of a leaf

-- elements that stand among octets
pub record IsIn (f : Forest) (at : ℕ) (octets : List ℕ) : Type 0 where
  pub before : List ℕ
  pub after : List ℕ
  pub whole : octets ≡ before ++ (enc f ++ after)
  pub place : at ≡ length before

inside_tlv : (tag : ℕ) (content : List ℕ) → tlv tag content ≡ header tag (length content) ++ content
unfolding tlv
inside_tlv tag content = refl

at_place : (before content after : List ℕ) (n : ℕ) → n ≡ length before → take (length content) (drop n (before ++ (content ++ after))) ≡ content
at_place before content after n e = rw (drop_at before (content ++ after) n (sym e)) (take_at content after (length content) refl)

leaf_content : (kind : Leaf) (name : Name) (tag : ℕ) (content : List ℕ) (rest : Forest) (at depth : ℕ) (octets : List ℕ)
    → IsIn (leaf kind name tag content rest) at octets
    → content_of octets (item (form.Leaf kind) name depth tag at (length content)) ≡ content
leaf_content kind name tag content rest at depth octets i =
    let h = header tag (length content) in
    let whole : octets ≡ (i.before ++ h) ++ (content ++ (enc rest ++ i.after)) =
    i.whole ∙ ap (λ (o : List ℕ). i.before ++ ((o ++ enc rest) ++ i.after)) (inside_tlv tag content) ∙ simp append_assoc in
    let place = i.place in
    rw whole (at_place (i.before ++ h) content (enc rest ++ i.after) (at + length h) (omega (arith, place, length-append i.before h)))

behind_tlv : (tag : ℕ) (content : List ℕ) (rest : Forest) (at : ℕ) (octets before after : List ℕ) → octets ≡ before ++ ((tlv tag content ++ enc rest) ++ after)
    → at ≡ length before
    → IsIn rest (at + length (tlv tag content)) octets
behind_tlv tag content rest at octets before after e p = record {
  before = before ++ tlv tag content;
  after = after;
  whole = e ∙ simp append_assoc;
  place = omega (arith, p, length-append before (tlv tag content));
}

within_tlv : (tag : ℕ) (inside rest : Forest) (at : ℕ) (octets before after : List ℕ) → octets ≡ before ++ ((tlv tag (enc inside) ++ enc rest) ++ after)
    → at ≡ length before
    → IsIn inside (at + length (header tag (length (enc inside)))) octets
within_tlv tag inside rest at octets before after e p =
    let h = header tag (length (enc inside)) in
    record {
      before = before ++ h;
      after = enc rest ++ after;
      whole = e ∙ ap (λ (o : List ℕ). before ++ ((o ++ enc rest) ++ after)) (inside_tlv tag (enc inside)) ∙ simp append_assoc;
      place = omega (arith, p, length-append before h);
    }

module _ (tells : Role → List ℕ → Label → List ℕ → List Token → List Token → Type 0) where
  -- ---- leaves

  plain_shown : (kind : Leaf) (name : Name) (depth tag at size : ℕ) (content : List ℕ) (s : Stand) → s.secrets ≡ secrets.Shown → (old new : List Token)
      → plain_leaf tells kind (item (form.Leaf kind) name depth tag at size) content s old new
      → leaf_shown tells kind name tag content (is_in_list s.inside) s.number old new
  plain_shown leaves.Secret name depth tag at size content s e old new h =
      subst (λ (x : _). secret_of x (label_of s.inside name) content old new) e h
  plain_shown kind name depth tag at size content s e old new h = h

  same_behind : (kind : Leaf) (content : List ℕ) (s : Stand) → stand_behind kind content s ≡ numbered (behind_leaf kind content s.number) s
  same_behind leaves.Integer content s = refl
  same_behind kind content s = refl

  -- ---- further in

  -- it stands one further in, in a list or not, among components of a name or not
  record Inner (next s : Stand) (list names : Bool) : Type 0 where
    in_list : is_in_list next.inside ≡ list
    in_name : is_in_name next.inside ≡ names
    kept : next.names ≡ s.names
    number : next.number ≡ s.number
    secrets : next.secrets ≡ s.secrets
    left : popped next ≡ s

  inner_of : (x : _) (s : Stand) → Inner (pushed x s) s (is_in_list (x ∷ [])) (is_in_name (x ∷ []))
  inner_of x s = record {
    in_list = rw (last_of s.inside x) refl;
    in_name = rw (last_of s.inside x) refl;
    kept = refl;
    number = refl;
    secrets = refl;
    left = ap (λ (l : _). record s { inside = l }) (without_last s.inside x);
  }

  moved : (octets : List ℕ) (items others : List Item) (s t : Stand) (old before new : List Token) → items ≡ others → s ≡ t → old ≡ before
      → shown tells octets items s old new
      → shown tells octets others t before new
  moved octets items others s t old before new e f g h =
      subst (λ (l : List Item). shown tells octets l t before new) e (subst (λ (x : Stand). shown tells octets items x before new) f
      (subst (λ (o : List Token). shown tells octets items s o new) g h))

  -- ---- components of names

  named_all : (inside : Forest) → AllComponents inside → (depth at : ℕ) (octets : List ℕ) → IsIn inside at octets
      → (more : List Item) (s : Stand) (old new : List Token)
      → is_in_name s.inside ≡ true → shown tells octets (items_at depth at inside ++ more) s old new
      → shown tells octets more (record s { names = s.names ++ components inside }) old new
  named_all none all depth at octets i more s old new e h =
      subst (λ (n : List (List ℕ)). shown tells octets more (record s { names = n }) old new) (sym (append-nil s.names)) h
  named_all (leaf kind name tag content rest) all depth at octets i more s old new e (next, between, st, h) =
      let here = item (form.Leaf kind) name depth tag at (length content) in
      let as_name = subst (λ (b : Bool). leaf_step tells b kind here (content_of octets here) s old next between) e st in
      let next_is = as_name.0 ∙ ap (λ (c : List ℕ). record s { names = s.names ++ c ∷ [] }) (leaf_content kind name tag content rest at depth octets i) in
      let further = named_all rest all.1 depth (at + length (tlv tag content)) octets (behind_tlv tag content rest at octets i.before i.after i.whole i.place)
      more
      (record s { names = s.names ++ content ∷ [] }) old new e (moved octets _ _ next (record s { names = s.names ++ content ∷ [] }) between old new refl
      next_is as_name.1 h) in
      subst (λ (n : List (List ℕ)). shown tells octets more (record s { names = n }) old new) (append_assoc s.names (content ∷ []) (components rest)) further
  named_all (node kind name tag inside rest) all depth at octets i more s old new e h = absurd all

  no_test : false ≡ true → ⊥
  no_test e = cc

  behind_kind : (kind : Leaf) (content number : List ℕ) → is_component (form.Leaf kind) ≡ true → behind_leaf kind content number ≡ number
  behind_kind leaves.Integer content number e = absurd (no_test e)
  behind_kind kind content number e = refl

  behind_names : (inside : Forest) (number : List ℕ) → AllComponents inside → behind inside number ≡ number
  behind_names none number all = refl
  behind_names (leaf kind name tag content rest) number all = ap (behind rest) (behind_kind kind content number all.0) ∙ behind_names rest number all.1
  behind_names (node kind name tag inside rest) number all = absurd all

  -- ---- elements

  -- what elements add, and the items behind them
  pub record After (f : Forest) (octets : List ℕ) (more : List Item) (s : Stand) (old new : List Token) : Type 0 where
    pub between : List Token
    pub here : forest_shown tells (is_in_list s.inside) s.number f old between
    pub rest : shown tells octets more (numbered (behind f s.number) s) between new

  -- such a place: not among components of a name, none kept, and secrets shown
  pub record IsOpen (s : Stand) : Type 0 where
    pub apart : is_in_name s.inside ≡ false
    pub nameless : s.names ≡ []
    pub shows : s.secrets ≡ secrets.Shown

  open_number : (s : Stand) (n : List ℕ) → IsOpen s → IsOpen (numbered n s)
  open_number s n o = record { apart = o.apart; nameless = o.nameless; shows = o.shows }

  open_inner : (next s : Stand) (list : Bool) → Inner next s list false → IsOpen s → IsOpen next
  open_inner next s list i o = record { apart = i.in_name; nameless = i.kept ∙ o.nameless; shows = i.secrets ∙ o.shows }

  abbrev Bridged : Forest → Type 0
  Bridged f = (depth at : ℕ) (octets : List ℕ) → IsIn f at octets → (more : List Item) (s : Stand) (old new : List Token) → IsOpen s
      → shown tells octets (items_at depth at f ++ more) s old new → After f octets more s old new

  -- a list, and the items behind it
  record AfterList (inside : Forest) (label : Label) (b : Bool) (octets : List ℕ) (more : List Item) (s : Stand) (old new : List Token) : Type 0 where
    between : List Token
    here : list_shown b label inside (forest_shown tells true s.number inside) old between
    rest : shown tells octets more (numbered (behind inside s.number) s) between new

  list_parts : (inside : Forest) (kind : Node) (name : Name) (tag : ℕ) (b : Bool) → Either b (AllComponents inside) (IsPlain inside)
      → (IsPlain inside → Bridged inside)
      → ((i : Item) (s : Stand) (old : List Token) (next : Stand) (new : List Token) → end_step tells kind i s old next new
      → list_end tells (is_in_name s.inside) i s old next new)
      → (depth at place : ℕ) (octets : List ℕ) → IsIn inside place octets → (more : List Item) (s : Stand) (old new : List Token) → IsOpen s
      → (next : Stand) (first : List Token)
      → list_step tells b (item (form.Begin kind) name depth tag at (length (enc inside)))
      (items_at (depth + 1) place inside ++ item (form.End kind) name depth tag at (length (enc inside)) ∷ more) s old next first
      → shown tells octets (items_at (depth + 1) place inside ++ item (form.End kind) name depth tag at (length (enc inside)) ∷ more) next first new
      → AfterList inside (label_of s.inside name) b octets more s old new
  list_parts inside kind name tag true all bridged ends depth at place octets i more s old new o next first st h =
      let end = item (form.End kind) name depth tag at (length (enc inside)) in
      let inner : Inner next s false true = subst (λ (x : Stand). Inner x s false true) (sym st.0) (inner_of _ s) in
      let named_stand : Stand = record next { names = next.names ++ components inside } in
      let far = named_all inside all (depth + 1) place octets i (end ∷ more) next first new inner.in_name h in
      let last = subst (λ (c : Bool). list_end tells c end named_stand first far.0 far.1) inner.in_name (ends end named_stand first far.0 far.1 far.2) in
      let names : next.names ++ components inside ≡ components inside = ap (λ (n : List (List ℕ)). n ++ components inside) (inner.kept ∙ o.nameless) in
      let text = subst (λ (n : List (List ℕ)). name_of (label_of (popped next).inside name) n first far.1) names last.1 in
      let labelled = subst (λ (x : Stand). name_of (label_of x.inside name) (components inside) first far.1) inner.left text in
      let same_names : nameless s ≡ s = ap (λ (n : List (List ℕ)). record s { names = n }) (sym o.nameless) in
      let stand : far.0 ≡ numbered (behind inside s.number) s =
      last.0 ∙ ap nameless inner.left ∙ same_names ∙ ap (λ (n : List ℕ). numbered n s) (sym (behind_names inside s.number all)) in
      record {
        between = far.1;
        here = subst (λ (p : List Token). name_of (label_of s.inside name) (components inside) p far.1) st.1 labelled;
        rest = subst (λ (x : Stand). shown tells octets more x far.1 new) stand far.3;
      }
  list_parts inside kind name tag false all bridged ends depth at place octets i more s old new o next first st h =
      let end = item (form.End kind) name depth tag at (length (enc inside)) in
      let inner : Inner next s true false = subst (λ (x : Stand). Inner x s true false) (sym st.0) (inner_of _ s) in
      let a = bridged all (depth + 1) place octets i (end ∷ more) next first new (open_inner next s true inner o) h in
      let n = behind inside next.number in
      let last = subst (λ (c : Bool). list_end tells c end (numbered n next) a.between a.rest.0 a.rest.1) inner.in_name
      (ends end (numbered n next) a.between a.rest.0 a.rest.1 a.rest.2) in
      let ended = subst (λ (x : Stand). adds (mark tokens.ListEnd (label_of x.inside name)) a.between a.rest.1) inner.left last.1 in
      let within : forest_shown tells true s.number inside first a.between =
      subst (λ (c : Bool). forest_shown tells c s.number inside first a.between) inner.in_list
      (subst (λ (m : List ℕ). forest_shown tells (is_in_list next.inside) m inside first a.between) inner.number a.here) in
      let begun = subst (λ (m : ℕ). adds (token_leaf tokens.List (label_of s.inside name) (decimal m)) old first)
      (counted_list inside depth place kind name tag at (length (enc inside)) more) st.1 in
      let stand : a.rest.0 ≡ numbered (behind inside s.number) s =
      last.0 ∙ ap (λ (x : Stand). numbered n x) inner.left ∙ ap (λ (m : List ℕ). numbered (behind inside m) s) inner.number in
      record {
        between = a.rest.1;
        here = (first, begun, (a.between, within, ended));
        rest = subst (λ (x : Stand). shown tells octets more x a.rest.1 new) stand a.rest.3;
      }

  -- a list begins as its first element says
  list_of : (inside : Forest) (kind : Node) (name : Name) (tag : ℕ) → Either (is_of_name inside) (AllComponents inside) (IsPlain inside)
      → (IsPlain inside → Bridged inside)
      → ((i : Item) (s : Stand) (old : List Token) (next : Stand) (new : List Token) → end_step tells kind i s old next new
      → list_end tells (is_in_name s.inside) i s old next new)
      → (depth at place : ℕ) (octets : List ℕ) → IsIn inside place octets → (last more : List Item) (s : Stand) (old new : List Token) → IsOpen s
      → (next : Stand) (first : List Token)
      → list_step tells (begins_name ((items_at (depth + 1) place inside ++ item (form.End kind) name depth tag at (length (enc inside)) ∷ last) ++ more))
      (item (form.Begin kind) name depth tag at (length (enc inside)))
      ((items_at (depth + 1) place inside ++ item (form.End kind) name depth tag at (length (enc inside)) ∷ last) ++ more) s old next first
      → shown tells octets ((items_at (depth + 1) place inside ++ item (form.End kind) name depth tag at (length (enc inside)) ∷ last) ++ more) next first new
      → AfterList inside (label_of s.inside name) (is_of_name inside) octets (last ++ more) s old new
  list_of inside kind name tag all bridged ends depth at place octets i last more s old new o next first st h =
      let begin = item (form.Begin kind) name depth tag at (length (enc inside)) in
      let end = item (form.End kind) name depth tag at (length (enc inside)) in
      let within = items_at (depth + 1) place inside in
      let whole : (within ++ end ∷ last) ++ more ≡ within ++ (end ∷ (last ++ more)) = append_assoc within (end ∷ last) more in
      let begun = subst (λ (l : List Item). list_step tells (begins_name l) begin l s old next first) whole st in
      let known = subst (λ (b : Bool). list_step tells b begin (within ++ (end ∷ (last ++ more))) s old next first)
      (first_name inside (depth + 1) place kind name depth tag at (length (enc inside)) (last ++ more)) begun in
      list_parts inside kind name tag (is_of_name inside) all bridged ends depth at place octets i (last ++ more) s old new o next first known
      (subst (λ (l : List Item). shown tells octets l next first new) whole h)

  pub bridge : (f : Forest) → IsPlain f → Bridged f
  bridge none plain depth at octets i more s old new o h = record { between = old; here = refl; rest = h }
  bridge (leaf kind name tag content rest) plain depth at octets i more s old new o (next, between, st, h) =
      let here = item (form.Leaf kind) name depth tag at (length content) in
      let apart = subst (λ (b : Bool). leaf_step tells b kind here (content_of octets here) s old next between) o.apart st in
      let alone = subst (λ (c : List ℕ). leaf_step tells false kind here c s old next between) (leaf_content kind name tag content rest at depth octets i)
      apart in
      let stand = alone.0 ∙ same_behind kind content s in
      let a = bridge rest plain depth (at + length (tlv tag content)) octets (behind_tlv tag content rest at octets i.before i.after i.whole i.place) more
      (numbered (behind_leaf kind content s.number) s) between new (open_number s (behind_leaf kind content s.number) o)
      (subst (λ (x : Stand). shown tells octets (items_at depth (at + length (tlv tag content)) rest ++ more) x between new) stand h) in
      record {
        between = a.between;
        here = (between, plain_shown kind name depth tag at (length content) content s o.shows old between alone.1, a.here);
        rest = a.rest;
      }
  bridge (node nodes.Wrap name tag inside rest) plain depth at octets i more s old new o (next, first, st, h) =
      let size = length (enc inside) in
      let end = item (form.End nodes.Wrap) name depth tag at size in
      let within = items_at (depth + 1) (at + length (header tag size)) inside in
      let last = items_at depth (at + length (tlv tag (enc inside))) rest in
      let a = bridge inside plain.0 (depth + 1) (at + length (header tag size)) octets (within_tlv tag inside rest at octets i.before i.after i.whole i.place)
      (end ∷ (last ++ more)) s old new o
      (moved octets ((within ++ end ∷ last) ++ more) (within ++ (end ∷ (last ++ more))) next s first old new (append_assoc within (end ∷ last) more) st.0 st.1
      h) in
      let n = behind inside s.number in
      let b = bridge rest plain.1 depth (at + length (tlv tag (enc inside))) octets
      (behind_tlv tag (enc inside) rest at octets i.before i.after i.whole i.place) more (numbered n s) a.between new
      (open_number s n o) (moved octets (last ++ more) (last ++ more) a.rest.0 (numbered n s) a.rest.1 a.between new refl a.rest.2.0 a.rest.2.1 a.rest.3) in
      record { between = b.between; here = (a.between, a.here, b.here); rest = b.rest }
  bridge (node nodes.Struct name tag inside rest) plain depth at octets i more s old new o (next, first, st, h) =
      let size = length (enc inside) in
      let end = item (form.End nodes.Struct) name depth tag at size in
      let within = items_at (depth + 1) (at + length (header tag size)) inside in
      let last = items_at depth (at + length (tlv tag (enc inside))) rest in
      let inner : Inner next s false false = subst (λ (x : Stand). Inner x s false false) (sym st.0) (inner_of _ s) in
      let a = bridge inside plain.0 (depth + 1) (at + length (header tag size)) octets (within_tlv tag inside rest at octets i.before i.after i.whole i.place)
      (end ∷ (last ++ more)) next first new
      (open_inner next s false inner o)
      (subst (λ (l : List Item). shown tells octets l next first new) (append_assoc within (end ∷ last) more) h) in
      let n = behind inside s.number in
      let fields : forest_shown tells false s.number inside first a.between =
      subst (λ (c : Bool). forest_shown tells c s.number inside first a.between) inner.in_list
      (subst (λ (m : List ℕ). forest_shown tells (is_in_list next.inside) m inside first a.between) inner.number a.here) in
      let ended = subst (λ (x : Stand). adds (mark tokens.StructEnd (label_of x.inside name)) a.between a.rest.1) inner.left a.rest.2.1 in
      let stand : a.rest.0 ≡ numbered n s =
      a.rest.2.0 ∙ ap (λ (x : Stand). numbered (behind inside next.number) x) inner.left ∙ ap (λ (m : List ℕ). numbered (behind inside m) s) inner.number in
      let b = bridge rest plain.1 depth (at + length (tlv tag (enc inside))) octets
      (behind_tlv tag (enc inside) rest at octets i.before i.after i.whole i.place) more (numbered n s) a.rest.1 new
      (open_number s n o) (subst (λ (x : Stand). shown tells octets (last ++ more) x a.rest.1 new) stand a.rest.3) in
      record { between = b.between; here = (a.rest.1, (first, st.1, (a.between, fields, ended)), b.here); rest = b.rest }
  bridge (node nodes.List name tag inside rest) plain depth at octets i more s old new o (next, first, st, h) =
      let size = length (enc inside) in
      let a = list_of inside nodes.List name tag plain.0 (bridge inside) (λ j t from to e k. k) depth at (at + length (header tag size)) octets
      (within_tlv tag inside rest at octets i.before i.after i.whole i.place) (items_at depth (at + length (tlv tag (enc inside))) rest) more s old new o next
      first st h in
      let n = behind inside s.number in
      let b = bridge rest plain.1 depth (at + length (tlv tag (enc inside))) octets
      (behind_tlv tag (enc inside) rest at octets i.before i.after i.whole i.place) more (numbered n s) a.between new
      (open_number s n o) a.rest in
      record { between = b.between; here = (a.between, a.here, b.here); rest = b.rest }
  bridge (node nodes.FilledList name tag inside rest) plain depth at octets i more s old new o (next, first, st, h) =
      let size = length (enc inside) in
      let a = list_of inside nodes.FilledList name tag plain.0 (bridge inside) (λ j t from to e k. k) depth at (at + length (header tag size)) octets
      (within_tlv tag inside rest at octets i.before i.after i.whole i.place) (items_at depth (at + length (tlv tag (enc inside))) rest) more s old new o next
      first st h in
      let n = behind inside s.number in
      let b = bridge rest plain.1 depth (at + length (tlv tag (enc inside))) octets
      (behind_tlv tag (enc inside) rest at octets i.before i.after i.whole i.place) more (numbered n s) a.between new
      (open_number s n o) a.rest in
      record { between = b.between; here = (a.between, a.here, b.here); rest = b.rest }
