-- OCTET STRINGs that may hold an element are told by their lines.
use Rattle.std.proofs.Common.{◌≡◌, ◌⊎◌, ℕ, nat_eq, nat_lt, Bool, true, false, ◌&&◌, ◌||◌, if◌then◌else◌, inl, inr, refl, sym, ap, subst, ◌∙◌, List, [], ◌∷◌, ◌++◌, arith}
use Rattle.std.specs.Prelude.{Option, None, Some, map}
use Rattle.std.proofs.lemmas.Grind.{common_steps}
use Rattle.krb_schema.specs.declared.item.Node.TheVariants as nodes
use Rattle.krb_schema.specs.declared.shape.Case.{Case}
use Rattle.krb_schema.specs.declared.shape.Leaf.TheVariants as leaves
use Rattle.krb_schema.specs.declared.shape.Name.{Name}
use Rattle.krb_schema.specs.declared.shape.Role.{Role}
use Rattle.krb_schema.specs.declared.shape.Shape.{Shape}
use Rattle.krb_schema.specs.Forests.{Forest, none, leaf, node}
use Rattle.krb_schema.specs.Shapes.{Applies, IsBehind, IsHeld, called, number_octets, here, later, plain}
use Rattle.krb_show.specs.Tokens.{Label, Token}
use Rattle.krb_show_row_laws.specs.Telling.{is_name, other_than}
use Rattle.krb_show_row_laws.specs.Blocks.{Tells}
use Rattle.krb_show_row_laws.specs.Firsts.{First, Firsts, Kinds, apart_firsts, names_of}
use Rattle.krb_show_row_laws.specs.Formats.{FormatsTell}
use Rattle.krb_show_row_laws.specs.Pages.{forest_shown, label_in, leaf_shown}
use Rattle.krb_show_row_laws.specs.Tests.{CaseRow, FieldRow, OwnName, apart_cases, apart_rows, apart_sequences, case_firsts, case_fits, firsts, fits, held_firsts, held_fits, is_own, known_number, never_both, octets_firsts, own_is_name, own_role, own_text, sequence}
use Rattle.krb_show_row_laws.proofs.SplitLaws.{and_left, and_right, head, tail}
use Rattle.krb_show_row_laws.proofs.WordLaws.{of_other}
use Rattle.krb_show_row_laws.proofs.FieldLaws.{tells_so}
use Rattle.krb_show_row_laws.proofs.FirstLaws.{Never, begins_left, begins_right, firsts_block, firsts_never, firsts_so, never_so, never_swapped, never_tells, or_true, tells_from, tells_via}
use Rattle.krb_show_row_laws.proofs.ForestLaws.{AreSmall, octets_within, then_nothing}
use Rattle.krb_show_row_laws.proofs.LeafRows.{leaf_first, leaf_told, octets_behind}
use Rattle.krb_show_row_laws.proofs.Told.{Known, Links, Told, links_first}

-- ---- the INTEGER before

by_size : (a b : Bool) (m n : ℕ) → (if a then 2 ∷ 1 ∷ m ∷ [] else 2 ∷ 2 ∷ 0 ∷ m ∷ []) ≡ (if b then 2 ∷ 1 ∷ n ∷ [] else 2 ∷ 2 ∷ 0 ∷ n ∷ []) → m ≡ n
by_size true true m n e = head _ _ _ _ (tail _ _ _ _ (tail _ _ _ _ e))
by_size true false m n e = absurd (omega (arith, head _ _ _ _ (tail _ _ _ _ e)))
by_size false true m n e = absurd (omega (arith, head _ _ _ _ (tail _ _ _ _ e)))
by_size false false m n e = head _ _ _ _ (tail _ _ _ _ (tail _ _ _ _ (tail _ _ _ _ e)))

one_number_octets : (m n : ℕ) → number_octets m ≡ number_octets n → m ≡ n
one_number_octets m n e = by_size (nat_lt m 128) (nat_lt n 128) m n e

never_behind : (x y : Option ℕ) (before other : List ℕ) → never_both x y ≡ true → IsBehind x before → IsBehind y other → before ≡ other → ⊥
never_behind None y before other e h k same = cc
never_behind (Some m) None before other e h k same = cc
never_behind (Some m) (Some n) before other e h k same =
    let one = one_number_octets m n (sym h ∙ same ∙ k) in
    let differ = of_other (nat_eq m n) e in
    grind (arith, common_steps)

-- ---- what elements of cases are called

-- what the element of a case is called, beside an OCTET STRING of this name: so too, or by a name of its own
pub record Naming (own : Case → OwnName) (known_as : Case → Name) (name : Name) : Type 0 where
  pub text : (c : Case) → (known_as c).text.now ≡ own_text (own c) name.text.now
  pub role : (c : Case) → (known_as c).role ≡ own_role (own c) name.role
  pub shared : (c : Case) → other_than (is_own (own c)) ≡ true → known_as c ≡ name

-- an element of one of these cases, or plain octets
pub data Holds (R : ℕ → Name → List ℕ → Forest → Type 0) (known_as : Case → Name) (name : Name) (before content : List ℕ) : List Case → Forest → Type 0 where
  held_here : (case : Case) (cases : List Case) (inside : Forest) → Applies case before → R case.is (known_as case) [] inside
      → Holds R known_as name before content (case ∷ cases) (node nodes.Wrap name 4 inside none)
  held_later : (case : Case) (cases : List Case) (element : Forest) → Holds R known_as name before content cases element
      → Holds R known_as name before content (case ∷ cases) element
  held_octets : Holds R known_as name before content [] (leaf leaves.Octets name 4 content none)

pub holds : (R : ℕ → Name → List ℕ → Forest → Type 0) (name : Name) (before content : List ℕ) (cs : List Case) (f : Forest) → IsHeld R name before content cs f
    → Holds R (λ c. called c name) name before content cs f
holds R name before content cs f (here c ds inside applies r e) = held_here c ds inside applies r
holds R name before content cs f (later c ds element lacks r) = held_later c ds element (holds R name before content ds element r)
holds R name before content cs f plain = held_octets

abbrev pub row_of : (Case → OwnName) → Case → CaseRow
row_of own c = (c.behind, own c, c.is)

own_named : (o : OwnName) (name : List ℕ) → is_name name ≡ true → own_is_name o ≡ true → is_name (own_text o name) ≡ true
own_named None name h k = h
own_named (Some own) name h k = k

module _ (tells : Role → List ℕ → Label → List ℕ → List Token → List Token → Type 0) (kinds : Kinds) (formats : FormatsTell kinds tells) (covers : ℕ → Bool)
    (deep : ℕ)
    (shapes : List Shape) (table : List FieldRow) (cases : List CaseRow) (n : ℕ) (R : ℕ → Name → List ℕ → Forest → Type 0) (own : Case → OwnName)
    (known_as : Case → Name)
    (name : Name) (naming : Naming own known_as name) (named : is_name name.text.now ≡ true) (linked : Bool) where
  abbrev firsts_in : ℕ → Name → List First
  firsts_in is name = firsts kinds covers deep shapes table cases n is name.text.now name.role

  abbrev fits_in : ℕ → Name → Bool
  fits_in is name = fits kinds covers deep shapes table cases n true is name.text.now name.role

  abbrev held_in : List Case → List First
  held_in cs = held_firsts kinds covers deep shapes table cases (firsts kinds covers deep shapes table cases n) (map (row_of own) cs) name.text.now name.role

  abbrev held_fit : List Case → Bool
  held_fit cs = held_fits kinds covers deep shapes table cases (fits kinds covers deep shapes table cases n true) n linked (map (row_of own) cs) name.text.now
      name.role

  abbrev case_apart : Case → List Case → Bool
  case_apart c cs = apart_cases kinds covers deep shapes table cases n linked (row_of own c) (map (row_of own) cs) name.text.now name.role

  abbrev firsts_of : Case → List First
  firsts_of c = case_firsts kinds covers deep shapes table cases n (row_of own c) name.text.now name.role

  abbrev fits_of : Case → Bool
  fits_of c = case_fits kinds covers deep shapes table cases (fits kinds covers deep shapes table cases n true) (row_of own c) name.text.now name.role

  abbrev are_shared : Case → Case → Bool
  are_shared c d = other_than (is_own (own c)) && other_than (is_own (own d))

  abbrev sequences_apart : ℕ → ℕ → Bool
  sequences_apart is are = apart_sequences kinds covers deep shapes table cases (sequence kinds covers deep shapes table cases n is)
      (sequence kinds covers deep shapes table cases n are)

  abbrev rows_apart : Case → Case → Bool
  rows_apart c d = apart_rows kinds covers deep shapes table cases n (row_of own c) (row_of own d) name.text.now name.role

  -- elements of rows are told, and those of SEQUENCEs that are apart have no lines in common
  module _ (rows : (is : ℕ) (name : Name) → fits_in is name ≡ true → is_name name.text.now ≡ true → Told tells true (firsts_in is name) (R is name))
      (differ : (is are : ℕ) → fits_in is name ≡ true → fits_in are name ≡ true → sequences_apart is are ≡ true
      → (f g : Forest) → R is name [] f → R are name [] g → AreSmall f → AreSmall g → (in_list : Bool) (number another : List ℕ)
      → Never (forest_shown tells in_list number f) (forest_shown tells in_list another g)) where
    row_fits : (c : Case) (cs : List Case) → held_fit (c ∷ cs) ≡ true → fits_of c ≡ true
    row_fits c cs h = and_left (fits_of c) (case_apart c cs && held_fit cs) h

    is_apart : (c : Case) (cs : List Case) → held_fit (c ∷ cs) ≡ true → case_apart c cs ≡ true
    is_apart c cs h = and_left (case_apart c cs) (held_fit cs) (and_right (fits_of c) (case_apart c cs && held_fit cs) h)

    others_fit : (c : Case) (cs : List Case) → held_fit (c ∷ cs) ≡ true → held_fit cs ≡ true
    others_fit c cs h = and_right (case_apart c cs) (held_fit cs) (and_right (fits_of c) (case_apart c cs && held_fit cs) h)

    -- its own row, under its name
    own_fits : (c : Case) → fits_of c ≡ true → fits_in c.is (known_as c) ≡ true
    own_fits c h =
        let fit = and_right (own_is_name (own c)) (fits kinds covers deep shapes table cases n true c.is (own_text (own c) name.text.now)
        (own_role (own c) name.role)) h in
        subst (λ (t : List ℕ). fits kinds covers deep shapes table cases n true c.is t (known_as c).role ≡ true) (sym (naming.text c))
        (subst (λ (r : Role). fits kinds covers deep shapes table cases n true c.is (own_text (own c) name.text.now) r ≡ true) (sym (naming.role c)) fit)

    shared_fits : (c : Case) → fits_of c ≡ true → other_than (is_own (own c)) ≡ true → fits_in c.is name ≡ true
    shared_fits c h e = subst (λ (m : Name). fits_in c.is m ≡ true) (naming.shared c e) (own_fits c h)

    row_told : (c : Case) → fits_of c ≡ true → Told tells true (firsts_of c) (R c.is (known_as c))
    row_told c h =
        let well = subst (λ (t : List ℕ). is_name t ≡ true) (sym (naming.text c))
        (own_named (own c) name.text.now named (and_left (own_is_name (own c))
        (fits kinds covers deep shapes table cases n true c.is (own_text (own c) name.text.now) (own_role (own c) name.role)) h)) in
        subst (λ (r : Role). Told tells true (firsts kinds covers deep shapes table cases n c.is (own_text (own c) name.text.now) r) (R c.is (known_as c)))
        (naming.role c)
        (subst (λ (t : List ℕ). Told tells true (firsts kinds covers deep shapes table cases n c.is t (known_as c).role) (R c.is (known_as c))) (naming.text c)
        (rows c.is (known_as c) (own_fits c h) well))

    left_firsts : {fs : List First} (gs : List First) {a : List Token → List Token → Type 0} → Firsts fs a → Firsts (fs ++ gs) a
    left_firsts {fs} gs h = record { first = λ old new s. begins_left fs gs old new (h.first old new s) }

    right_firsts : (fs : List First) {gs : List First} {a : List Token → List Token → Type 0} → Firsts gs a → Firsts (fs ++ gs) a
    right_firsts fs {gs} h = record { first = λ old new s. begins_right fs gs old new (h.first old new s) }

    pub held_first : (before content : List ℕ) (cs : List Case) (f : Forest) → Holds R known_as name before content cs f → AreSmall f → held_fit cs ≡ true
        → (in_list : Bool) (number : List ℕ) → Firsts (held_in cs) (forest_shown tells in_list number f)
    held_first before content cs f (held_here c ds inside applies r) small fit in_list number =
        left_firsts (held_in ds)
        (firsts_so (then_nothing (forest_shown tells in_list number inside))
        ((row_told c (row_fits c ds fit)).first [] inside r small.0 in_list number (links_first true number)))
    held_first before content cs f (held_later c ds element r) small fit in_list number =
        right_firsts (firsts_of c) (held_first before content ds element r small (others_fit c ds fit) in_list number)
    held_first before content cs f held_octets small fit in_list number =
        firsts_so (then_nothing _) (leaf_first tells kinds formats leaves.Octets name 4 content named tt small.0 in_list number)

    -- two cases that are apart
    lines_never : (c d : Case) (inside within : Forest) → fits_of c ≡ true → fits_of d ≡ true → rows_apart c d ≡ true → R c.is (known_as c) [] inside
        → R d.is (known_as d) [] within
        → AreSmall inside → AreSmall within → (in_list : Bool) (number another : List ℕ)
        → Never (forest_shown tells in_list number inside) (forest_shown tells in_list another within)
    lines_never c d inside within fit fits_too apart r w small little in_list number another =
        by_lines (or_true (are_shared c d && sequences_apart c.is d.is) (apart_firsts (firsts_of c) (firsts_of d)) apart)
      where
        by_lines : (are_shared c d && sequences_apart c.is d.is ≡ true) ⊎ (apart_firsts (firsts_of c) (firsts_of d) ≡ true)
            → Never (forest_shown tells in_list number inside) (forest_shown tells in_list another within)
        by_lines (inr t) =
            firsts_never t ((row_told c fit).first [] inside r small in_list number (links_first true number))
            ((row_told d fits_too).first [] within w little in_list another (links_first true another))
        by_lines (inl t) =
            let both_shared = and_left (are_shared c d) (sequences_apart c.is d.is) t in
            let one = and_left (other_than (is_own (own c))) (other_than (is_own (own d))) both_shared in
            let two = and_right (other_than (is_own (own c))) (other_than (is_own (own d))) both_shared in
            differ c.is d.is (shared_fits c fit one) (shared_fits d fits_too two) (and_right (are_shared c d) (sequences_apart c.is d.is) t) inside within
            (subst (λ (m : Name). R c.is m [] inside) (naming.shared c one) r) (subst (λ (m : Name). R d.is m [] within) (naming.shared d two) w) small little
            in_list number another

    -- plain octets begin so behind the number of a case that applies
    known_firsts : (linked : Bool) (behind : Option ℕ) (before content number : List ℕ) → IsBehind behind before → Links linked before number
        → AreSmall (leaf leaves.Octets name 4 content none)
        → (in_list : Bool) → Firsts (octets_firsts kinds (known_number linked behind) name.text.now name.role)
        (leaf_shown tells leaves.Octets name 4 content in_list number)
    known_firsts false behind before content number h l small in_list = leaf_first tells kinds formats leaves.Octets name 4 content named tt small.0 in_list
        number
    known_firsts true None before content number h l small in_list = leaf_first tells kinds formats leaves.Octets name 4 content named tt small.0 in_list number
    known_firsts true (Some m) before content number h l small in_list =
        subst (λ (k : List ℕ). Firsts (octets_firsts kinds (Some k) name.text.now name.role) (leaf_shown tells leaves.Octets name 4 content in_list number))
        (l m h)
        (octets_behind tells kinds formats name.role number (label_in in_list name) content named (octets_within 4 content small.0))

    case_never : (c : Case) (inside : Forest) (before : List ℕ) → R c.is (known_as c) [] inside → AreSmall inside → Applies c before → fits_of c ≡ true
        → (other content : List ℕ) (cs : List Case) (g : Forest) → Holds R known_as name other content cs g → AreSmall g → held_fit cs ≡ true
        → case_apart c cs ≡ true → before ≡ other
        → (in_list : Bool) (number another : List ℕ) → Links linked other another
        → Never (forest_shown tells in_list number (node nodes.Wrap name 4 inside none)) (forest_shown tells in_list another g)
    case_never c inside before r small applies fit other content cs g (held_here d ds within applies_too w) little fits_too apart same in_list
        number another l =
        never_so (then_nothing (forest_shown tells in_list number inside)) (then_nothing (forest_shown tells in_list another within))
        (by_test (or_true (never_both c.behind d.behind) (rows_apart c d) (and_left (never_both c.behind d.behind || rows_apart c d) (case_apart c ds) apart)))
      where
        by_test : (never_both c.behind d.behind ≡ true) ⊎ (rows_apart c d ≡ true)
            → Never (forest_shown tells in_list number inside) (forest_shown tells in_list another within)
        by_test (inl t) = absurd (never_behind c.behind d.behind before other t applies applies_too same)
        by_test (inr t) = lines_never c d inside within fit (row_fits d ds fits_too) t r w small little.0 in_list number another
    case_never c inside before r small applies fit other content cs g (held_later d ds element w) little fits_too apart same in_list number another l =
        case_never c inside before r small applies fit other content ds element w little (others_fit d ds fits_too)
        (and_right (never_both c.behind d.behind || rows_apart c d) (case_apart c ds) apart) same in_list number another l
    case_never c inside before r small applies fit other content cs g held_octets little fits_too apart same in_list number another l =
        never_so (then_nothing (forest_shown tells in_list number inside)) (then_nothing _)
        (firsts_never apart ((row_told c fit).first [] inside r small in_list number (links_first true number))
        (known_firsts linked c.behind other content another (subst (IsBehind c.behind) same applies) l little in_list))

    pub held_told : (before other content contents : List ℕ) (cs : List Case) (f g : Forest) → Holds R known_as name before content cs f
        → Holds R known_as name other contents cs g
        → AreSmall f → AreSmall g → held_fit cs ≡ true → (in_list : Bool) (number another : List ℕ) → Links linked before number → Links linked other another
        → Tells (λ names. names_of (held_in cs)) (λ names. true) (Known before other number another) (f ≡ g) (forest_shown tells in_list number f)
        (forest_shown tells in_list another g)
    held_told before other content contents cs f g (held_here c ds inside applies r) (held_here d es within applies_too w) small little fit in_list number
        another l k =
        tells_from (firsts_block (held_first before content (c ∷ ds) (node nodes.Wrap name 4 inside none) (held_here c ds inside applies r) small fit in_list
        number))
        (firsts_block (held_first other contents (c ∷ ds) (node nodes.Wrap name 4 within none) (held_here c ds within applies_too w) little fit in_list
        another))
        (tells_via (then_nothing (forest_shown tells in_list number inside)) (then_nothing (forest_shown tells in_list another within))
        (tells_so (λ k. (refl, k.1)) (λ p. ap (λ (x : Forest). node nodes.Wrap name 4 x none) p)
        ((row_told c (row_fits c ds fit)).told [] [] inside within r w small.0 little.0 in_list number another (links_first true number)
        (links_first true another))))
    held_told before other content contents cs f g (held_here c ds inside applies r) (held_later d es element w) small little fit in_list number another l k =
        never_tells (held_first before content (c ∷ ds) (node nodes.Wrap name 4 inside none) (held_here c ds inside applies r) small fit in_list number)
        (held_first other contents (c ∷ ds) element (held_later c ds element w) little fit in_list another)
        (λ known. case_never c inside before r small.0 applies (row_fits c ds fit) other contents ds element w little (others_fit c ds fit) (is_apart c ds fit)
        known.0 in_list number another k)
    held_told before other content contents cs f g (held_later c ds element r) (held_here d es within applies w) small little fit in_list number another l k =
        never_tells (held_first before content (c ∷ ds) element (held_later c ds element r) small fit in_list number)
        (held_first other contents (c ∷ ds) (node nodes.Wrap name 4 within none) (held_here c ds within applies w) little fit in_list another)
        (λ known. never_swapped (case_never c within other w little.0 applies (row_fits c ds fit) before content ds element r small (others_fit c ds fit)
        (is_apart c ds fit) (sym known.0)
        in_list another number l))
    held_told before other content contents cs f g (held_later c ds element r) (held_later d es another_element w) small little fit in_list number another l k =
        tells_from (firsts_block (held_first before content (c ∷ ds) element (held_later c ds element r) small fit in_list number))
        (firsts_block (held_first other contents (c ∷ ds) another_element (held_later c ds another_element w) little fit in_list another))
        (held_told before other content contents ds element another_element r w small little (others_fit c ds fit) in_list number another l k)
    held_told before other content contents cs f g held_octets held_octets small little fit in_list number another l k =
        tells_via (then_nothing _) (then_nothing _)
        (tells_so (λ k. k.1) (λ p. ap (λ (c : List ℕ). leaf leaves.Octets name 4 c none) p)
        (leaf_told tells kinds formats leaves.Octets name 4 content contents named tt tt small.0 little.0 in_list number another))
