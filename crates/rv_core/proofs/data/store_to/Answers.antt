use Rattle.rv_core.proofs.Lines.{word_poked}
use Rattle.rv_core.proofs.data.store_to.Goals as goal

pub returns-in-Sw-clause-did : goal.returns-in-Sw-clause-did
returns-in-Sw-clause-did g c =
    rw c.in-Sw.is
    (word_poked g.P.Port.did_touch g.P.Port.did_poke c.args.port.now c.poke-in-Sw.new.self c.poke-in-Sw-2.new.self c.poke-in-Sw-3.new.self c.poke-in-Sw-4.new.self c.args.at c.args.value
    c.to_le_bytes-bytes.result c.to_le_bytes-bytes.ensures c.poke-in-Sw.ensures.did c.poke-in-Sw-2.ensures.did c.poke-in-Sw-3.ensures.did c.poke-in-Sw-4.ensures.did)
