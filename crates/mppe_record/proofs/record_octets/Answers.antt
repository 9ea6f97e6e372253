use Rattle.mppe_record.proofs.InnerLaws.{record_laid}
use Rattle.mppe_record.proofs.record_octets.Goals as goal

pub returns : goal.returns
returns c = record_laid _ c.front_octets-front.ensures c.rest_octets-rest.ensures c.copy.ensures c.copy_at.ensures
