use Rattle.std.proofs.Common.{◌≡◌, ℕ, List, length, sym, ap, ◌∙◌, subst}
use Rattle.krb_pac.specs.Stands.{Stands, KeepsOutside}
use Rattle.krb_pac.specs.Written.{entry_octets, FitsEntry}
use Rattle.krb_pac.specs.Entry.{Entry}
use Rattle.krb_pac.proofs.writing.put_buffer.Goals as goal

pub returns-clause-put : goal.returns-clause-put
returns-clause-put c =
    let p = c.args.p.now in
    let old = c.args.out.now in
    let mid = c.put.new.out in
    let new = c.put-2.new.out in
    let info : c.info_buffer.result.now ≡ p.info = c.info_buffer.ensures in
    let octets : c.entry.result ≡ entry_octets p.info = c.entry.ensures.octets ∙ ap entry_octets info in
    let offset : c.offset.result ≡ p.info.offset = c.offset.ensures ∙ ap (λ (z : Entry). z.offset) c.info_buffer-2.ensures in
    let named : c.octets.result.now ≡ p.octets = c.octets.ensures.octets in
    let range : Stands new p.info.offset c.octets.result.now = subst (λ (k : ℕ). Stands new k c.octets.result.now) offset c.put-2.ensures.here in
    let kept : KeepsOutside p.info.offset (length c.octets.result.now) mid new = subst (λ (k : ℕ). KeepsOutside k (length c.octets.result.now) mid new) offset c.put-2.ensures.kept in
    record {
      between = mid;
      sized = sym (ap length named) ∙ c.octets.ensures.size;
      fits = subst FitsEntry info c.entry.ensures.fits;
      entry_len = c.put.ensures.len;
      entry = subst (Stands mid c.args.at) octets c.put.ensures.here;
      entry_kept = subst (λ (z : List ℕ). KeepsOutside c.args.at (length z) old mid) octets c.put.ensures.kept;
      range_len = c.put-2.ensures.len;
      range = subst (Stands new p.info.offset) named range;
      range_kept = subst (λ (k : ℕ). KeepsOutside p.info.offset k mid new) c.octets.ensures.size kept;
    }
