use Rattle.std.proofs.Common.{rules}
use Rattle.store.specs.Stubs as stubs
use Rattle.store.proofs.layer.tests.stub.Stub.check.Goals as goal

pub returns-then-sector-self : goal.returns-then-sector-self
returns-then-sector-self c =
    let s = c.args.self.now in
    stubs.stub_access s.sectors s.live s.contents s.depth c.args.sector (search rules)

pub returns-then-sector-self-2 : goal.returns-then-sector-self-2
returns-then-sector-self-2 c =
    let s = c.args.self.now in
    stubs.stub_access s.sectors s.live s.contents s.depth c.args.sector (search rules)

pub returns-else-sector-self-2 : goal.returns-else-sector-self-2
returns-else-sector-self-2 c =
    let s = c.args.self.now in
    stubs.stub_access s.sectors s.live s.contents s.depth c.args.sector (search rules)
