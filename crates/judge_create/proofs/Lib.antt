mod Creating
