use Rattle.std.proofs.Common.{rules}
use Rattle.store.specs.Stubs as stubs
use Rattle.store.proofs.layer.tests.stub.StubStore.write.Goals as goal

pub returns-clause-image : goal.returns-clause-image
returns-clause-image c =
    let s = c.args.self.now in
    stubs.stub_put s.sectors s.live s.contents s.depth c.args.sector (search rules) c.args.bytes.now
