use Rattle.krb_show_negoex.proofs.NegoexPlaces.{extension_more}
use Rattle.krb_show_negoex.proofs.places.push_each_extension.Goals as goal

pub loop-n-preserved : goal.loop-n-preserved
loop-n-preserved c =
    extension_more c.args.base c.args.octets.now c.args.vector.offset c.loop-n.n c.args.places.now.items c.loop-n.places.items c.push_extension.new.places.items
    c.loop-n.invariant c.in_ok-push_extension.ensures
