use Rattle.std.proofs.Common.{◌≡◌, length, arith}
use Rattle.cdcl.specs.Watching.{kept_of}
use Rattle.cdcl.proofs.Adding.{put_short, put_line}
use Rattle.cdcl.proofs.watching.Watching.commit.Goals as goal

pub returns-in-None : goal.returns-in-None
returns-in-None c = λ front same.
    let ok = c.args.self.now.short.ok.0 in
    let len : c.len-last.result ≡ length c.args.self.now.short.items = omega (arith, c.len-last.ensures) in
    put_short (kept_of c.args.self.now) front c.args.watched.now c.len-last.result c.args.line c.in-None.is same len

pub returns-in-Some : goal.returns-in-Some
returns-in-Some c = λ front same.
    let ok = c.args.self.now.lines.ok.0 in
    let len : c.len-last-in-Some.result ≡ length c.args.self.now.lines.items = omega (arith, c.len-last-in-Some.ensures) in
    put_line (kept_of c.args.self.now) front c.args.watched.now c.in-Some.field-0 c.len-last-in-Some.result c.args.line c.in-Some.is same len
