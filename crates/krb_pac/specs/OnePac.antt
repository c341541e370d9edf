-- A PAC that octets are is one alone.
use Rattle.std.proofs.Common.{◌≡◌, ℕ, suc, ◌+◌, ◌*◌, List, [], ◌∷◌, length, take, drop, refl, sym, ap, ◌∙◌, arith}
use Rattle.krb_pac.specs.declared.kind.PacBufferType.{PacBufferType}
use Rattle.krb_pac.specs.Entry.{Entry}
use Rattle.krb_pac.specs.Kind.{same_code}
use Rattle.krb_pac.specs.Layout.{EntryAt, Buffer, BufferAt, Buffers, PacIs}

pub same_entry : (b : List ℕ) (at : ℕ) (i j : Entry) → EntryAt b at i → EntryAt b at j → i ≡ j
same_entry b at i j p q =
    let mk : PacBufferType → ℕ → ℕ → Entry = λ k s o. record { ul_type = k; cb_buffer_size = s; offset = o } in
    let k : i.ul_type ≡ j.ul_type = same_code i.ul_type j.ul_type (sym p.kind ∙ q.kind) in
    let s : i.cb_buffer_size ≡ j.cb_buffer_size = sym p.size ∙ q.size in
    let o : i.offset ≡ j.offset = sym p.offset ∙ q.offset in
    ap (λ (x : PacBufferType). mk x i.cb_buffer_size i.offset) k ∙ ap (λ (x : ℕ). mk j.ul_type x i.offset) s ∙ ap (λ (x : ℕ). mk j.ul_type j.cb_buffer_size x) o

pub same_buffer : (b : List ℕ) (at : ℕ) (p q : Buffer) → BufferAt b at p → BufferAt b at q → p ≡ q
same_buffer b at p q x y =
    let mk : Entry → List ℕ → Buffer = λ i o. record { info = i; octets = o } in
    let e : p.info ≡ q.info = same_entry b at p.info q.info x.entry y.entry in
    let o : p.octets ≡ q.octets = x.named ∙ ap (λ (i : Entry). take i.cb_buffer_size (drop i.offset b)) e ∙ sym y.named in
    ap (λ (i : Entry). mk i p.octets) e ∙ ap (λ (l : List ℕ). mk q.info l) o

same_buffers : (b : List ℕ) (i : ℕ) (ps qs : List Buffer) → length ps ≡ length qs → Buffers b i ps → Buffers b i qs → ps ≡ qs
same_buffers b i [] [] e x y = refl
same_buffers b i [] (q ∷ qs) e x y = absurd (omega arith)
same_buffers b i (p ∷ ps) [] e x y = absurd (omega arith)
same_buffers b i (p ∷ ps) (q ∷ qs) e x y =
    ap (λ (z : Buffer). z ∷ ps) (same_buffer b (8 + 16 * i) p q x.0 y.0) ∙ ap (λ (zs : List Buffer). q ∷ zs) (same_buffers b (suc i) ps qs (omega arith) x.1 y.1)

pub one_pac : (b : List ℕ) (p q : List Buffer) → PacIs b p → PacIs b q → p ≡ q
one_pac b p q x y = same_buffers b 0 p q (sym x.count ∙ y.count) x.buffers y.buffers
