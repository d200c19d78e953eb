use Rattle.std.proofs.Common.{rules}
use Rattle.store.specs.Stubs as stubs
use Rattle.store.proofs.layer.tests.stub.StubStore.read.Goals as goal

pub returns-clause-buffer : goal.returns-clause-buffer
returns-clause-buffer c =
    let s = c.args.self.now in
    stubs.stub_filled s.sectors s.live s.contents s.depth c.args.sector (search rules) c.args.buffer.now
